-- Each turn leaves the closure under all implications as it is, and ends where the closure under those in force respects the
-- one more.
use Prim.Native.Nat.{ℕ, ◌<◌, ◌-◌, ◌^◌}
use mathlib.Core.Path.{◌≡◌, refl, sym, ap, ◌∙◌}
use mathlib.Core.List.{List, [], ◌∷◌, ◌++◌}
use borrow.Author.Rules.{rules}
use native.Mathlib.Omega.{arith}
use lib.Bits.{bit_and, bit_or, or_lt}
use Rattle.theory.specs.Implications.{Implication}
use Rattle.attribute_set.proofs.Sets.Laws.{sub→and, and→sub, sub-le, or_right, le-or}
use Rattle.implication.specs.Closure.{implication, in_force, closure}
use Rattle.implication.proofs.Closure.Laws.{closure-least, one-more-end, one-more-again}
use Rattle.following.proofs.closure_with.Statement.{statement}
use Rattle.following.proofs.closure_with.Tie as tie

abbrev invariant-loop : tie.invariant-loop-count
invariant-loop background list count premise conclusion set s₀ s =
    let rs = in_force background list count ++ (implication premise conclusion ∷ []) in
    (s < 2 ^ 64) × (closure rs s ≡ closure rs set)

abbrev decreases-loop : tie.decreases-loop-count
decreases-loop background list count premise conclusion set s₀ s = 2 ^ 64 - s

abbrev in_use : tie.After-closure_of-t invariant-loop decreases-loop → List (Implication ℕ)
in_use c =
    let a = c.args in
    in_force a.background.now a.list.now a.count

abbrev more : tie.After-closure_of-t invariant-loop decreases-loop → Implication ℕ
more c =
    let a = c.args in
    implication a.premise a.conclusion

loop-holds : tie.Need-loop-count-init invariant-loop decreases-loop
loop-holds c = (search rules, refl)

returns : tie.Need-returns-then-premise-t invariant-loop decreases-loop
returns c =
    let s = c.loop-count.s in
    c.closure_of-t.ensures
    ∙ sym (one-more-end (in_use c.before) (more c.before) s (λ h. absurd (c.if-premise-t.true (ap (bit_and (more c.before).premise) c.closure_of-t.ensures ∙ sub→and h))))
    ∙ c.loop-count.invariant.1

returns-2 : tie.Need-returns-then-conclusion-t invariant-loop decreases-loop
returns-2 c =
    let s = c.loop-count.s in
    c.closure_of-t.ensures
    ∙ sym (one-more-end (in_use c.before.before) (more c.before.before) s (λ h. and→sub (more c.before.before).conclusion (closure (in_use c.before.before) s) (sym (ap (bit_and (more c.before.before).conclusion) c.closure_of-t.ensures) ∙ c.if-conclusion-t.true)))
    ∙ c.loop-count.invariant.1

-- the set grows
grows : (c : tie.Else-conclusion-t invariant-loop decreases-loop) → c.loop-count.s < bit_or c.closure_of-t.result (more c.before.before).conclusion
grows c =
    let s = c.loop-count.s in
    let t = c.closure_of-t.result in
    let new : t ≡ bit_or t (more c.before.before).conclusion → ⊥ = λ e. c.if-conclusion-t.false (sub→and (rw e (or_right t (more c.before.before).conclusion))) in
    omega (arith, le-or t (more c.before.before).conclusion, sub-le (closure-least (in_use c.before.before) s).above, c.closure_of-t.ensures)

loop-less : tie.Need-loop-count-smaller invariant-loop decreases-loop
loop-less c = omega (arith, grows c, c.loop-count.invariant.0)

loop-again : tie.Need-loop-count-preserved invariant-loop decreases-loop
loop-again c =
    let s = c.loop-count.s in (
      or_lt 64 c.closure_of-t.result (more c.before.before).conclusion (search rules) (search rules),
      ap (λ t. closure (in_use c.before.before ++ (more c.before.before ∷ [])) (bit_or t (more c.before.before).conclusion)) c.closure_of-t.ensures
          ∙ one-more-again (in_use c.before.before) (more c.before.before) s (and→sub _ _ (sym (ap (bit_and (more c.before.before).premise) c.closure_of-t.ensures) ∙ c.if-premise-t.false))
          ∙ c.loop-count.invariant.1,
    )

pub closure_with_spec : {M : Type 1} → statement M
closure_with_spec =
    tie.close (tie.spec
    invariant-loop
    decreases-loop
    loop-holds
    (λ c κs. search rules)
    returns
    returns-2
    loop-less
    loop-again)
