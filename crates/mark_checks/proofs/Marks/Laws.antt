-- What checks 5 and 6 lean on: why a row that marks an attribute both ways contradicts too, why the empty implication contradicts nothing,
-- and why the rows that a slice has not are not marked both ways. Which of the two decides (`five`, `six`).
use Rattle.std.specs.Prelude.{◌≡◌, refl, Bool, true, false, List, [], ◌∷◌, ◌++◌, ◌⊎◌, ℕ, ◌+◌, ◌-◌, ◌*◌, ◌≤◌, ◌<◌, take, drop}
use Rattle.std.proofs.Common.{sym, ap, ◌∙◌, true≢false, inl, inr, arith}
use Rattle.std.proofs.Math.Option.{some}
use Rattle.theory.proofs.Lists.Laws.{all_nil, all_cons}
use Rattle.theory.specs.Implications.{Implication}
use Rattle.attribute_set.proofs.Sets.Laws.{lt-or-le, sub_refl, apart-sub, digit-none}
use Rattle.implication.specs.Closure.{implication}
use Rattle.implication.proofs.Closure.Laws.{closure-least, closure-idle}
use Rattle.context.specs.Places.{lowest, anywhere}
use Rattle.context.proofs.Places.Search.{lowest-le, lowest-from}
use Rattle.context.specs.Objects.{Object, object, objects_of, marked_twice, contradicts, whole}
use Rattle.context.proofs.Objects.Laws.{lowest-whole, lowest-none, apart-marked, contradicts-apart}
use Rattle.session.specs.Refusals.{refusal}
use Rattle.machine.specs.Checks.{State, force, first_failing, session_checks}
use Rattle.machine.proofs.Checks.Laws.{failing-here, failing-later}
use Rattle.contradictions.proofs.Contradictions.Laws.{blank-idle}

-- the yes marks lie in their closure, so a row that marks an attribute both ways contradicts
marked-contradicts : (rs : List (Implication ℕ)) (o : Object) → marked_twice o ≡ true → contradicts rs o ≡ true
marked-contradicts rs o e = go (contradicts rs o) refl
  where
    go : (b : Bool) → contradicts rs o ≡ b → b ≡ true
    go true h = refl
    go false h =
        absurd (true≢false
        (sym e ∙ apart-marked o (apart-sub (closure-least rs o.yes_marks).above (sub_refl o.no_marks) (contradicts-apart rs o h))))

-- the empty implication contradicts nothing
contradicts-idle : (rs : List (Implication ℕ)) (o : Object) → contradicts (rs ++ (implication 0 0 ∷ [])) o ≡ contradicts rs o
unfolding contradicts
contradicts-idle rs o = rw (closure-idle rs (implication 0 0 ∷ []) (all_cons refl (all_nil _)) o.yes_marks)

pub lowest-idle : (rs : List (Implication ℕ)) (os : List Object)
    → lowest (contradicts (rs ++ (implication 0 0 ∷ []))) os ≡ lowest (contradicts rs) os
lowest-idle rs os =
    let with_it = contradicts (rs ++ (implication 0 0 ∷ [])) in
    let less = lowest-le with_it (contradicts rs) (λ o e. contradicts-idle rs o ∙ e) os in
    let more = lowest-le (contradicts rs) with_it (λ o e. sym (contradicts-idle rs o) ∙ e) os in
    omega arith

-- no row before the first that contradicts is marked both ways
marked-later : (rs : List (Implication ℕ)) (os : List Object) → lowest (contradicts rs) os ≤ lowest marked_twice os
marked-later rs os = lowest-le (contradicts rs) marked_twice (marked-contradicts rs) os

-- a row without no marks marks no attribute both ways
blank-once : (a : ℕ) → marked_twice (object a 0) ≡ false
blank-once a = apart-marked (object a 0) (record { at = λ i h k. omega (arith, digit-none i) })

module _ (rs : List (Implication ℕ)) (count : ℕ) (ws : List ℕ) where
  -- a row that contradicts is one that the slice has whole
  found-whole : lowest (contradicts rs) (objects_of count ws) < count
      → (lowest (contradicts rs) (objects_of count ws) < whole count ws)
      × (lowest (contradicts rs) (objects_of count ws) ≡ lowest (contradicts rs) (objects_of (whole count ws) ws))
  found-whole h = go (lt-or-le (lowest f (objects_of (whole count ws) ws)) (whole count ws))
    where
      f : Object → Bool
      f = contradicts rs

      go : (lowest f (objects_of (whole count ws) ws) < whole count ws) ⊎ (whole count ws ≤ lowest f (objects_of (whole count ws) ws))
          → (lowest f (objects_of count ws) < whole count ws) × (lowest f (objects_of count ws) ≡ lowest f (objects_of (whole count ws) ws))
      go (inl l) = let e = lowest-whole f (blank-idle rs) count ws l in (omega (arith, e), e)
      go (inr l) = absurd (omega (arith, lowest-none f (blank-idle rs) count ws l))

  pub contradicting-whole : lowest (contradicts rs) (objects_of count ws) < count → lowest (contradicts rs) (objects_of count ws) ≤ whole count ws
  contradicting-whole h = omega (arith, (found-whole h).0)

  -- so the search for one marked both ways may begin there
  pub double-from : (i : ℕ) → i ≡ lowest (contradicts rs) (objects_of count ws) → i < count
      → i + lowest marked_twice (objects_of (whole count ws - i) (drop (i * 2) ws)) ≡ lowest marked_twice (objects_of (whole count ws) ws)
  double-from i e h =
      let w = whole count ws in
      sym (lowest-from marked_twice object ws w i
      (omega (arith, e, (found-whole (omega (arith, e))).1, marked-later rs (objects_of w ws))))

  -- and what it finds from there on, among the k rows that the slice has whole, is the first of those
  pub double-found : {i k double : ℕ} → i ≡ lowest (contradicts rs) (objects_of count ws) → i < count → k ≡ whole count ws
      → double ≡ i + lowest marked_twice (objects_of (k - i) (drop (i * 2) ws)) → double ≡ lowest marked_twice (objects_of (whole count ws) ws)
  double-found {i} e h w d = d ∙ ap (λ (k : ℕ). i + lowest marked_twice (objects_of (k - i) (drop (i * 2) ws))) w ∙ double-from i e h

  -- none is marked both ways, or the first is the first of those that the slice has whole
  pub double-none : whole count ws ≤ lowest marked_twice (objects_of (whole count ws) ws) → count ≤ lowest marked_twice (objects_of count ws)
  double-none h = omega (arith, lowest-none marked_twice blank-once count ws h)

  pub double-whole : lowest marked_twice (objects_of (whole count ws) ws) < whole count ws
      → lowest marked_twice (objects_of count ws) ≡ lowest marked_twice (objects_of (whole count ws) ws)
  double-whole h = lowest-whole marked_twice blank-once count ws h

  pub none-double : count ≤ lowest (contradicts rs) (objects_of count ws) → count ≤ lowest marked_twice (objects_of count ws)
  none-double h = omega (arith, marked-later rs (objects_of count ws))

-- of checks 5 and 6, the one that decides
module _ (s : State) (asked : List (Implication ℕ)) where
  -- 5 fails
  pub five : anywhere marked_twice s.rows ≡ true
      → first_failing (take 2 (drop 4 (session_checks s asked))) ≡ some (refusal 5 (lowest marked_twice s.rows))
  unfolding session_checks
  five h = failing-here _ _ h

  -- 5 passes and 6 fails
  pub six : anywhere marked_twice s.rows ≡ false → anywhere (contradicts (force s)) s.rows ≡ true
      → first_failing (take 2 (drop 4 (session_checks s asked))) ≡ some (refusal 6 (lowest (contradicts (force s)) s.rows))
  unfolding session_checks
  six h k = failing-later _ _ h ∙ failing-here _ _ k
