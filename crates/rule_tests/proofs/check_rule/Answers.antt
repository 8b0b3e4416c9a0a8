-- The search is for the first row that contradicts with the question added, which decides check 11, and the lengths decide check 12.
use Rattle.std.specs.Prelude.{◌≡◌, [], ◌∷◌, ◌++◌, ℕ, ◌/◌, length}
use Rattle.std.proofs.Common.{ap, ◌∙◌, append_assoc, arith}
use borrow.Author.Tests.{le-leb, lt-leb}
use Rattle.theory.specs.Implications.{Implication}
use Rattle.implication.proofs.Pairs.Laws.{length_pairs}
use Rattle.context.specs.Places.{lowest}
use Rattle.context.proofs.Places.Search.{anywhere-at, anywhere-none}
use Rattle.context.specs.Objects.{object, contradicts}
use Rattle.machine.specs.Checks.{State, force, first_failing, question, with_question, yes_checks}
use Rattle.machine.specs.Calls.{state_of}
use Rattle.rule_tests.proofs.check_rule.Goals as goal

-- the rule added to those in force is the question added to the list
with_it : (s : State) (q : Implication ℕ) {row : ℕ} → row ≡ lowest (contradicts (force s ++ (q ∷ []))) s.rows → q ≡ question s
    → row ≡ lowest (contradicts (with_question s)) s.rows
with_it s q e h =
    e ∙ ap (λ r. lowest (contradicts (force s ++ (r ∷ []))) s.rows) h
    ∙ ap (λ rs. lowest (contradicts rs) s.rows) (append_assoc s.background s.list (question s ∷ []))

pub returns-then-row-used : goal.returns-then-row-used
unfolding yes_checks first_failing
returns-then-row-used c q =
    let a = c.args in
    let s = state_of a.session a.rows.now a.list.now a.background.now in
    let first = with_it s _ c.first_contradiction-row.ensures q in
    rw (c.refused.ensures, anywhere-at (contradicts (with_question s)) object a.rows.now a.session.rows (omega (arith, first)), first)

pub returns-then-list-rules : goal.returns-then-list-rules
unfolding yes_checks first_failing
returns-then-list-rules c q =
    let a = c.args in
    let s = state_of a.session a.rows.now a.list.now a.background.now in
    let first = with_it s _ c.first_contradiction-row.ensures q in
    rw (
      c.refused-then-list-rules.ensures,
      anywhere-none (contradicts (with_question s)) object a.rows.now a.session.rows (omega (arith, first)),
      length_pairs,
      le-leb (length a.list.now / 2) a.session.rules (omega arith),
    )

pub returns : goal.returns
unfolding yes_checks first_failing
returns c q =
    let a = c.args in
    let s = state_of a.session a.rows.now a.list.now a.background.now in
    let first = with_it s _ c.first_contradiction-row.ensures q in
    rw (
      anywhere-none (contradicts (with_question s)) object a.rows.now a.session.rows (omega (arith, first)),
      length_pairs,
      lt-leb (length a.list.now / 2) a.session.rules (omega arith),
    )
