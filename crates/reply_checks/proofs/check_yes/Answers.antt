-- A refusal before the question is the reply's; else the checks behind check 8 decide.
use Rattle.std.specs.Prelude.{drop}
use Rattle.std.proofs.Common.{ap}
use Rattle.std.proofs.lemmas.Result.{err_from_is_err_and}
use Rattle.implication.specs.Closure.{implication}
use Rattle.machine.specs.Checks.{yes_checks}
use Rattle.machine.specs.Calls.{state_of}
use Rattle.standing.specs.declared.Question.{Question}
use Rattle.reply_checks.proofs.Outcomes.Laws.{yes-found, question-standing, refused-before, refused-behind, passed-behind}
use Rattle.reply_checks.proofs.check_yes.Goals as goal

pub returns-in_err-question : goal.returns-in_err-question
returns-in_err-question c =
    let a = c.args in
    let s = state_of a.session a.rows.now a.list.now a.background.now in
    let p = err_from_is_err_and c.from_residual.result c.from_residual.ensures.1 in
    rw (p.1, p.2) (refused-before s (drop 1 (yes_checks s)) (yes-found s) _ c.in_err-question.ensures)

pub returns-in_err-check_rule : goal.returns-in_err-check_rule
returns-in_err-check_rule c =
    let a = c.args in
    let s = state_of a.session a.rows.now a.list.now a.background.now in
    let q = question-standing s _ c.in_ok-question.ensures in
    let p = err_from_is_err_and c.from_residual-in_err-check_rule.result c.from_residual-in_err-check_rule.ensures.1 in
    rw (p.1, p.2)
    (refused-behind s (drop 1 (yes_checks s)) (yes-found s) _ _ c.in_ok-question.ensures
    (c.in_err-check_rule.ensures (ap (λ (q : Question). implication q.premise q.conclusion) q)))

pub returns : goal.returns
returns c =
    let a = c.args in
    let s = state_of a.session a.rows.now a.list.now a.background.now in
    let q = question-standing s _ c.in_ok-question.ensures in
    passed-behind s (drop 1 (yes_checks s)) (yes-found s) _ c.in_ok-question.ensures
    (c.in_ok-check_rule.ensures (ap (λ (q : Question). implication q.premise q.conclusion) q))
