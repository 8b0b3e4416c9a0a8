-- The Q line is written; then the refusal, or the question, which the place that is left takes.
use Rattle.std.proofs.Common.{arith}
use Rattle.interview_replies.proofs.Holding.Laws.{yes-full, yes-free}
use Rattle.interview_yes.proofs.say_yes.Goals as goal

pub returns-then-list-rules : goal.returns-then-list-rules
returns-then-list-rules c small =
    let a = c.args in
    yes-full a.interview a.rows.now a.list.now a.conclusion _ c.put_yes-end.ensures c.if-list-rules.true c.put_refusal.ensures

pub returns : goal.returns
returns c small =
    let a = c.args in
    yes-free a.interview a.rows.now a.list.now a.conclusion _ c.put_yes-end.ensures small (omega (arith, c.if-list-rules.false))
    c.next_of.result c.count_change.result c.next_of.ensures c.count_change.ensures
