-- What the read-only calls answer: what their checks refuse; where those pass, the call's own test. The state is as it was.
use Rattle.std.specs.Prelude.{◌≡◌, refl, Bool, List, [], ◌∷◌, ℕ, ◌<◌, ◌≤◌, length, Result, Ok}
use Rattle.std.proofs.Common.{sym, ◌∙◌}
use Rattle.std.proofs.Math.Path.{ap, ap₂}
use Rattle.std.proofs.Math.Option.{none, some}
use borrow.Author.Tests.{lt-ltb, le-ltb}
use Rattle.session.specs.declared.Session.{Session}
use Rattle.session.specs.declared.Refusal.{Refusal}
use Rattle.theory.specs.Implications.{Implication}
use Rattle.implication.specs.Closure.{follows}
use Rattle.implication.proofs.Pairs.Laws.{length_pairs}
use Rattle.context.specs.Objects.{object, first_refuting}
use Rattle.machine.specs.Checks.{State, force, first_failing, session_checks}
use Rattle.machine.specs.Machine.{Answer, turn, follow, refute, followed, refuted, unrefuted, refuted_at, refused, checks_of, performed, perform}
use Rattle.machine.proofs.Machine.Laws.{perform-accepted, perform-refused}
use Rattle.machine.specs.Calls.{state_of, MadeFrom}
use Rattle.machine.proofs.Calls.Laws.{performs}
use Rattle.size_checks.specs.Verdicts.{verdict_of}
use Rattle.session_checks.specs.Checked.{Checked}

module _ (s : Session) (rows list background : List ℕ) (q : Implication ℕ) where
  abbrev before : State
  before = state_of s rows list background

  pub follow_refused : {r : Refusal} → some r ≡ first_failing (session_checks before (q ∷ []))
      → MadeFrom (λ (a : Answer). a) (follow q) s rows list background (refused r) s rows list
  unfolding checks_of
  follow_refused e = performs (perform-refused before (follow q) _ (sym e)) refl refl

  pub refute_refused : {r : Refusal} → some r ≡ first_failing (session_checks before (q ∷ []))
      → MadeFrom (λ (a : Answer). a) (refute q) s rows list background (refused r) s rows list
  unfolding checks_of
  refute_refused e = performs (perform-refused before (refute q) _ (sym e)) refl refl

  -- whether the rule follows
  pub follow_answered : none ≡ first_failing (session_checks before (q ∷ [])) → {b : Bool} → b ≡ follows (force before) q
      → MadeFrom (λ (a : Answer). a) (follow q) s rows list background (followed b) s rows list
  unfolding checks_of performed
  follow_answered e f = performs (perform-accepted before (follow q) (sym e) ∙ ap (λ b. turn (followed b) before) (sym f)) refl refl

  -- the first row that refutes it, of those in use
  module _ (passed : none ≡ first_failing (session_checks before (q ∷ []))) {place : ℕ} (first : place ≡ first_refuting (force before) before.rows q) where
    found : perform before (refute q) ≡ turn (refuted_at place s.rows) before
    unfolding checks_of performed
    found =
        perform-accepted before (refute q) (sym passed)
        ∙ ap₂ (λ p k. turn (refuted_at p k) before) (sym first) (length_pairs object s.rows rows)

    pub refute_found : place < s.rows → MadeFrom (λ (a : Answer). a) (refute q) s rows list background (refuted place) s rows list
    unfolding refuted_at
    refute_found h = performs (found ∙ rw (refuted_at, lt-ltb _ _ h)) refl refl

    pub refute_nothing : s.rows ≤ place → MadeFrom (λ (a : Answer). a) (refute q) s rows list background unrefuted s rows list
    unfolding refuted_at
    refute_nothing h = performs (found ∙ rw (refuted_at, le-ltb _ _ h)) refl refl

-- ---- the same of a state, by the verdict of the checks

module _ (s : State) (q : Implication ℕ) {v : Result (Unit {0}) Refusal} (checked : Checked s q v) (passes : v ≡ Ok tt) where
  -- no check fails
  none-fails : first_failing (session_checks s (q ∷ [])) ≡ none
  none-fails = sym checked ∙ ap verdict_of passes

  -- whether the rule follows
  pub follow-answers : {b : Bool} → b ≡ follows (force s) q → perform s (follow q) ≡ turn (followed b) s
  unfolding checks_of performed
  follow-answers e = perform-accepted s (follow q) none-fails ∙ ap (λ b. turn (followed b) s) (sym e)

  -- the first row that refutes it, of so many
  pub refute-answers : {place count : ℕ} → place ≡ first_refuting (force s) s.rows q → length s.rows ≡ count
      → perform s (refute q) ≡ turn (refuted_at place count) s
  unfolding checks_of performed
  refute-answers e l = perform-accepted s (refute q) none-fails ∙ ap₂ (λ p k. turn (refuted_at p k) s) (sym e) l
