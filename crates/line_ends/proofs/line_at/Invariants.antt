-- No line ends before i: the line at `at` is the line at i, longer by the bytes between.
use Rattle.std.proofs.Common.{◌≡◌, ◌+◌, ◌-◌, drop}
use Rattle.table_lines.specs.Lines.{line_of}
use Rattle.line_ends.proofs.line_at.Given as goal

abbrev pub invariant-loop-i : goal.invariant-loop-i
invariant-loop-i l = record {
  size : (line_of (drop l.at l.file)).size ≡ (line_of (drop l.i l.file)).size + (l.i - l.at);
  step : (line_of (drop l.at l.file)).step ≡ (line_of (drop l.i l.file)).step + (l.i - l.at);
}
