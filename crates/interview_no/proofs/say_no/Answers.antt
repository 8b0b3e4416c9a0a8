-- The Q line is written; then the refusal, or the row, which the place that is left takes.
use Rattle.std.proofs.Common.{arith}
use Rattle.interview_replies.proofs.Holding.Laws.{no-full, no-free}
use Rattle.interview_no.proofs.say_no.Goals as goal

pub returns-then-rows-used : goal.returns-then-rows-used
returns-then-rows-used c =
    let a = c.args in
    no-full a.interview a.rows.now a.list.now a.conclusion a.number a.yes a.no _ c.put_no-end.ensures c.if-rows-used.true c.put_refusal.ensures

pub returns : goal.returns
returns c =
    let a = c.args in
    no-free a.interview a.rows.now a.list.now a.conclusion a.number a.yes a.no _ c.put_no-end.ensures (omega (arith, c.if-rows-used.false))
