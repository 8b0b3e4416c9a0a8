-- Each byte is a digit, and the number goes on with it.
use Rattle.std.proofs.Common.{◌+◌, ◌*◌, drop, sym, ap, ◌∙◌, arith}
use Rattle.table_counts.specs.Counts.{decimal_from}
use Rattle.table_counts.proofs.Counts.Laws.{decimal-at, decimal-end, digits-at, decimal-below}
use Rattle.table_counts.proofs.decimal.Goals as goal

pub overflow_sub-digit : goal.overflow_sub-digit
overflow_sub-digit c =
    let l = c.loop-digit in
    (digits-at c.args.line.now l.digit-index c.loop-digit-test.true l.invariant.digits).0

pub loop-digit-preserved : goal.loop-digit-preserved
loop-digit-preserved c =
    let l = c.loop-digit in
    let line = c.args.line.now in
    let d = digits-at line l.digit-index c.loop-digit-test.true l.invariant.digits in
    record {
      below = omega (arith, c.from.ensures, decimal-below l.n _ l.digit-index l.invariant.below d.1);
      digits = d.2;
      number =
          ap (λ b. decimal_from (l.n * 10 + b) (drop (l.digit-index + 1) line)) c.from.ensures
          ∙ sym (decimal-at line l.digit-index c.loop-digit-test.true l.n)
          ∙ l.invariant.number;
    }

pub returns : goal.returns
returns c =
    let l = c.loop-digit in
    sym (decimal-end c.args.line.now l.digit-index l.n c.loop-digit-test.false) ∙ l.invariant.number
