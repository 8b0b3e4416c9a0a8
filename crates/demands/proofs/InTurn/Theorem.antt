-- The old reply is the two in turn: the checks of a no are those of the test, then those of the filing. Where the test is refused, its
-- refusal is the no's (`test-refused`); where it passes, so do checks 1 to 7 (`test-checked`), and the no is the filing (`test-passed`). The
-- same by the test's answer (`no-refused`, `no-filed`).
use Rattle.std.specs.Prelude.{◌≡◌, [], ◌++◌}
use Rattle.std.proofs.Math.Path.{refl, sym, ap}
use Rattle.std.proofs.Common.{◌∙◌, subst, append_assoc}
use Rattle.std.proofs.Math.Bool.{true, false}
use Rattle.std.proofs.Math.Option.{Option, none, some}
use Rattle.context.specs.Objects.{Object}
use Rattle.session.specs.declared.Refusal.{Refusal}
use Rattle.machine.specs.Checks.{State, first_failing, session_checks, test_checks, filing_checks}
use Rattle.machine.proofs.Checks.Laws.{passed, none-failing, failing-append, failing-first, passed-append}
use Rattle.machine.specs.Machine.{reject, test, file, refuting, refused, Turn, turn, performed, checks_of, perform}
use Rattle.machine.proofs.Machine.Laws.{perform-cases, perform-accepted, perform-refused, Answers, refused-failing, answered-passing}
use Rattle.demands.specs.InTurn.{is_refused, in_turn, InTurn}

module _ (s : State) (o : Object) where
  joined : checks_of s (reject o) ≡ checks_of s (test o) ++ filing_checks s o
  unfolding checks_of
  joined = sym (append_assoc (session_checks s []) (test_checks s o) (filing_checks s o))

  pub test-refused : (r : Refusal) → first_failing (checks_of s (test o)) ≡ some r → perform s (reject o) ≡ turn (refused r) s
  test-refused r e = perform-refused s (reject o) r (ap first_failing joined ∙ failing-first (checks_of s (test o)) (filing_checks s o) r e)

  -- a test that passes has passed checks 1 to 7
  pub test-checked : first_failing (checks_of s (test o)) ≡ none → first_failing (session_checks s []) ≡ none
  unfolding checks_of
  test-checked e = none-failing _ (passed-append (session_checks s []) (test_checks s o) e).0

  pub test-passed : first_failing (checks_of s (test o)) ≡ none → perform s (reject o) ≡ perform s (file o)
  unfolding perform performed checks_of
  test-passed e =
      let no = ap first_failing joined ∙ failing-append (checks_of s (test o)) (filing_checks s o) (passed _ e) in
      let filing = failing-append (session_checks s []) (filing_checks s o) (passed _ (test-checked e)) in
      ap (λ v. elim v as (λ y. Turn) [ none ↦ performed s (file o) | some r ↦ turn (refused r) s ]) (no ∙ sym filing)

  pub no-refused : (r : Refusal) → (perform s (test o)).answer ≡ refused r → perform s (reject o) ≡ turn (refused r) s
  no-refused r h = test-refused r (refused-failing s (test o) r h)

  pub no-filed : (perform s (test o)).answer ≡ refuting
      → (first_failing (session_checks s []) ≡ none) × (perform s (reject o) ≡ perform s (file o))
  no-filed h =
      let e = answered-passing s (test o) (subst Answers (sym h) tt) in
      (test-checked e, test-passed e)

  test_leaves : (perform s (test o)).after ≡ s
  unfolding performed
  test_leaves = perform-cases s (test o) (λ t. t.after ≡ s) (λ e. refl) (λ r e. refl)

  as_in_turn : perform s (reject o) ≡ in_turn s (test o) (file o)
  unfolding in_turn performed
  as_in_turn = go (first_failing (checks_of s (test o))) refl
    where
      -- how it goes on after the turn of the test
      on : Turn → Turn
      on t = elim (is_refused t.answer) [ true ↦ t | false ↦ perform t.after (file o) ]

      go : (v : Option Refusal) → first_failing (checks_of s (test o)) ≡ v → perform s (reject o) ≡ in_turn s (test o) (file o)
      go none e = test-passed e ∙ sym (ap on (perform-accepted s (test o) e))
      go (some r) e = test-refused r e ∙ sym (ap on (perform-refused s (test o) r e))

pub no-in-turn : InTurn
no-in-turn = record { test_leaves = test_leaves; as_in_turn = as_in_turn }
