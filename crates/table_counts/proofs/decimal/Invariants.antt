-- The bytes not yet read go on from the number of those before them, which has as many digits as were read.
use Rattle.std.proofs.Common.{◌≡◌, ◌<◌, ◌^◌, true, drop}
use Rattle.table_bytes.specs.Bytes.{is_digit}
use Rattle.line_bytes.specs.Everywhere.{everywhere}
use Rattle.table_counts.specs.Counts.{decimal_from}
use Rattle.table_counts.proofs.decimal.Given as goal

abbrev pub invariant-loop-digit : goal.invariant-loop-digit
invariant-loop-digit l = record {
  below : l.n < 10 ^ l.digit-index;
  digits : everywhere is_digit (drop l.digit-index l.line) ≡ true;
  number : decimal_from l.n (drop l.digit-index l.line) ≡ decimal_from 0 l.line;
}
