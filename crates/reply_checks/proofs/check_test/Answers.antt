-- A refusal before the question is the call's; else the checks behind check 8 decide.
use Rattle.std.specs.Prelude.{◌≡◌, not, [], ◌∷◌, drop}
use Rattle.std.proofs.Common.{ap, ◌∙◌}
use Rattle.std.proofs.Math.Option.{Option}
use Rattle.std.proofs.lemmas.Result.{err_from_is_err_and}
use Rattle.session.specs.declared.Refusal.{Refusal}
use Rattle.implication.specs.Closure.{implication}
use Rattle.context.specs.Objects.{Object, object, refutes}
use Rattle.machine.specs.Checks.{State, force, check, first_failing, bad_row, test_checks}
use Rattle.machine.specs.Calls.{state_of}
use Rattle.standing.specs.declared.Question.{Question}
use Rattle.standing.specs.Standings.{question_of}
use Rattle.reply_checks.proofs.Outcomes.Laws.{test-found, question-standing, refused-before, refused-behind, passed-behind}
use Rattle.reply_checks.proofs.check_test.Goals as goal

-- checks 9 and 10 of the machine's question
of_question : (s : State) (o : Object) (q : Question) {v : Option Refusal} → q ≡ question_of s
    → v ≡ first_failing (check 9 (bad_row s.n o) 0 ∷ check 10 (not (refutes (force s) o (implication q.premise q.conclusion))) 0 ∷ [])
    → v ≡ first_failing (drop 1 (test_checks s o))
unfolding test_checks
of_question s o q h e =
    e ∙ ap (λ (q : Question). first_failing (check 9 (bad_row s.n o) 0 ∷ check 10 (not (refutes (force s) o (implication q.premise q.conclusion))) 0 ∷ [])) h

pub returns-in_err-question : goal.returns-in_err-question
returns-in_err-question c =
    let a = c.args in
    let o = object a.yes a.no in
    let s = state_of a.session a.rows.now a.list.now a.background.now in
    let p = err_from_is_err_and c.from_residual.result c.from_residual.ensures.1 in
    rw (p.1, p.2) (refused-before s (drop 1 (test_checks s o)) (test-found s o) _ c.in_err-question.ensures)

pub returns-in_err-check_tested_row : goal.returns-in_err-check_tested_row
returns-in_err-check_tested_row c =
    let a = c.args in
    let o = object a.yes a.no in
    let s = state_of a.session a.rows.now a.list.now a.background.now in
    let h = c.in_ok-question.ensures in
    let p = err_from_is_err_and c.from_residual-in_err-check_tested_row.result c.from_residual-in_err-check_tested_row.ensures.1 in
    rw (p.1, p.2)
    (refused-behind s (drop 1 (test_checks s o)) (test-found s o) _ _ h
    (of_question s o _ (question-standing s _ h) c.in_err-check_tested_row.ensures))

pub returns : goal.returns
returns c =
    let a = c.args in
    let o = object a.yes a.no in
    let s = state_of a.session a.rows.now a.list.now a.background.now in
    let h = c.in_ok-question.ensures in
    passed-behind s (drop 1 (test_checks s o)) (test-found s o) _ h (of_question s o _ (question-standing s _ h) c.in_ok-check_tested_row.ensures)
