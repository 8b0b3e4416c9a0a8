-- A turn takes the candidate at its attribute or passes it.
use Rattle.std.proofs.Common.{◌≡◌, ◌<◌, ◌≤◌, ◌-◌, ◌^◌, ◌%◌, List, ℕ, suc, min, bit_and, sym, ap, subst, ◌∙◌, arith}
use native.Mathlib.Nat.{mod-eq_of_lt, lt_of_lt_of_le}
use lib.Pow.{pow_mono}
use Rattle.theory.specs.Implications.{Implication}
use Rattle.attribute_set.specs.Sets.{full, without}
use Rattle.attribute_set.specs.Lectic.{raise}
use Rattle.attribute_set.proofs.Lectic.Laws.{raise-lt}
use Rattle.implication.specs.Closure.{in_force, closure}
use Rattle.implication.specs.Until.{CloseUntil}
use Rattle.next_set.specs.Next.{candidate, next_below}
use Rattle.next_set.proofs.Next.Laws.{next-passed}
use Rattle.next_set.proofs.Next.Tested.{next-taken, next-left}
use Rattle.closed_sets.proofs.next_of.Goals as goal

-- what the calls of a turn at i give
module _ (rs : List (Implication ℕ)) (set i all stop raised found : ℕ) (low : suc i ≤ 64) (e : all ≡ full (min i 64)) (s : stop ≡ without all set)
    (r : raised ≡ raise set i % 2 ^ 64) (until : CloseUntil (closure rs raised) stop found) where
  -- the attributes whose gain gives the candidate up
  stops : stop ≡ without (full i) set
  stops =
      let m : min i 64 ≡ i = omega arith in
      s ∙ ap (λ m. without m set) (e ∙ ap full m)

  given : CloseUntil (candidate rs set i) (without (full i) set) found
  given =
      let h : raised ≡ raise set i = r ∙ mod-eq_of_lt (lt_of_lt_of_le (raise-lt set i) (pow_mono low)) in
      subst (λ x. CloseUntil (closure rs x) (without (full i) set) found) h (subst (λ x. CloseUntil (closure rs raised) x found) stops until)

-- before a turn at i the search is left from the attribute after it
left : (rs : List (Implication ℕ)) (set j k : ℕ) → 0 < j → next_below rs set j ≡ k → next_below rs set (suc (j - 1)) ≡ k
left rs set j k h e = let i : suc (j - 1) ≡ j = omega arith in ap (next_below rs set) i ∙ e

pub loop-j-init : goal.loop-j-init
loop-j-init c = ap (next_below _ _) c.min-j.ensures

pub returns-then-found-stop-eq0 : goal.returns-then-found-stop-eq0
returns-then-found-stop-eq0 c =
    let a = c.args in
    let i = c.loop-j.j - 1 in
    let rs = in_force a.background.now a.list.now a.count in
    let low : suc i ≤ 64 = omega (arith, c.min-j.ensures, c.loop-j.auto.j, c.loop-j-test.true) in
    let s = stops rs a.set i _ _ _ _ low c.full_set.ensures c.difference-stop.ensures c.raised-raised.ensures c.close_until-found.ensures in
    let g = given rs a.set i _ _ _ _ low c.full_set.ensures c.difference-stop.ensures c.raised-raised.ensures c.close_until-found.ensures in
    sym (next-taken rs a.set i g (sym c.digit_of.ensures ∙ c.if-digit_of-eq0.true) (ap (bit_and c.close_until-found.result) (sym s) ∙ c.if-found-stop-eq0.true))
    ∙ left rs a.set _ _ (omega (arith, c.loop-j-test.true)) c.loop-j.invariant

pub loop-j-preserved-else-found-stop-eq0 : goal.loop-j-preserved-else-found-stop-eq0
loop-j-preserved-else-found-stop-eq0 c =
    let a = c.args in
    let i = c.loop-j.j - 1 in
    let rs = in_force a.background.now a.list.now a.count in
    let low : suc i ≤ 64 = omega (arith, c.min-j.ensures, c.loop-j.auto.j, c.loop-j-test.true) in
    let s = stops rs a.set i _ _ _ _ low c.full_set.ensures c.difference-stop.ensures c.raised-raised.ensures c.close_until-found.ensures in
    let g = given rs a.set i _ _ _ _ low c.full_set.ensures c.difference-stop.ensures c.raised-raised.ensures c.close_until-found.ensures in
    sym (next-left rs a.set i g (λ e. c.if-found-stop-eq0.false (ap (bit_and c.close_until-found.result) s ∙ e)))
    ∙ left rs a.set _ _ (omega (arith, c.loop-j-test.true)) c.loop-j.invariant

pub loop-j-preserved : goal.loop-j-preserved
loop-j-preserved c =
    let a = c.args in
    let rs = in_force a.background.now a.list.now a.count in
    sym (next-passed rs a.set (c.loop-j.j - 1) (λ f. c.if-digit_of-eq0.false (c.digit_of.ensures ∙ f.lacks)))
    ∙ left rs a.set _ _ (omega (arith, c.loop-j-test.true)) c.loop-j.invariant

pub returns : goal.returns
unfolding next_below
returns c =
    let e : c.loop-j.j ≡ 0 = omega (arith, c.loop-j-test.false) in
    ap (next_below _ _) (sym e) ∙ c.loop-j.invariant
