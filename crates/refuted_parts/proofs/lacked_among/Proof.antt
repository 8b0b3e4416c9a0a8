-- What is told as lacked and what the object lacks of the open attributes make up what it lacks of all.
use mathlib.Core.Path.{◌≡◌, sym, ap, ap₂, ◌∙◌}
use mathlib.Core.List.{List}
use Prim.Native.Nat.{ℕ, ◌^◌, ◌≤◌, ◌<◌}
use native.Mathlib.Omega.{arith}
use lib.Bits.{bit_and, bit_or, or_zero_r}
use borrow.Author.Rules.{rules}
use Rattle.theory.specs.Implications.{Implication}
use Rattle.attribute_set.specs.Sets.{digit, In, without}
use Rattle.attribute_set.proofs.Sets.Laws.{and-apart, member-lt, sub-le, without_sub}
use Rattle.implication.specs.Closure.{in_force}
use Rattle.context.specs.Objects.{Object, object, word_attributes, has, lacks}
use Rattle.context.proofs.Objects.Laws.{apart-contradicts}
use Rattle.context.specs.Parts.{spared}
use Rattle.context.proofs.Parts.Laws.{lacked-start, lacked-turn, without-less}
use Rattle.refuted_parts.proofs.lacked_among.Statement.{statement}
use Rattle.refuted_parts.proofs.lacked_among.Tie as tie

abbrev invariant-loop : tie.invariant-loop-left
invariant-loop background list rules yes' no' has among lacked₀ left₀ lacked left =
    let l = lacks (in_force background list rules) (object yes' no') in (left ≤ among) × (bit_or lacked (bit_and left l) ≡ bit_and among l)

abbrev decreases-loop : tie.decreases-loop-left
decreases-loop background list rules yes' no' has among lacked₀ left₀ lacked left = left

-- the implications in force, and the object
abbrev force : tie.After-difference-left invariant-loop decreases-loop → List (Implication ℕ)
force c = let a = c.args in in_force a.background.now a.list.now a.rules

abbrev row : tie.After-difference-left invariant-loop decreases-loop → Object
row c = let a = c.args in object a.yes a.no

loop-holds : tie.Need-loop-left-init invariant-loop decreases-loop
unfolding has
loop-holds c =
    let a = c.args in
    let is = c.requires.0 in
    let ok = apart-contradicts (force c) (row c) (and-apart _ _ (ap (λ (h : ℕ). bit_and h a.no) (sym is) ∙ c.requires.1)) in
    let e : c.difference-left.result ≡ without (without a.among a.no) (has (force c) (row c)) =
    c.difference-left.ensures ∙ ap₂ without c.difference.ensures is in (
      omega (arith, e, sub-le (without_sub (without a.among a.no) (has (force c) (row c))), sub-le (without_sub a.among a.no)),
      ap (λ (x : ℕ). bit_or (bit_and a.among a.no) (bit_and x (lacks (force c) (row c)))) e
          ∙ lacked-start (force c) (row c) a.among ok c.ranges.no.fits,
    )

-- the attribute that a turn looks at: one of those left
at : (c : tie.After-smallest_of-attribute invariant-loop decreases-loop)
    → (i : ℕ) × In i c.loop-left.left × ((j : ℕ) → j < i → digit c.loop-left.left j ≡ 0) × (c.smallest_of-attribute.result ≡ 2 ^ i)
at c = c.smallest_of-attribute.ensures.of_some c.loop-left-test.true

-- what is spared with it
spared-after : (c : tie.After-spared_with-spared invariant-loop decreases-loop)
    → let i = (at c.before).0 in
    c.spared_with-spared.result ≡ spared (force c.before.before.before.before) (row c.before.before.before.before) (2 ^ i)
spared-after c =
    let e : c.spared_with-spared.result ≡ spared (force c.before.before.before.before) (row c.before.before.before.before) c.smallest_of-attribute.result = c.spared_with-spared.ensures in
    e ∙ ap (spared (force c.before.before.before.before) (row c.before.before.before.before)) (at c.before).3

-- what is left after the turn
left_after : (c : tie.After-difference-left-in-loop-left invariant-loop decreases-loop)
    → let i = (at c.before.before.before).0 in
    c.difference-left-in-loop-left.result ≡ without c.loop-left.left (bit_or (2 ^ i) (spared (force c.before.before.before.before.before.before) (row c.before.before.before.before.before.before) (2 ^ i)))
left_after c =
    c.difference-left-in-loop-left.ensures ∙ ap₂ (λ (x y : ℕ). without c.loop-left.left (bit_or x y)) (at c.before.before.before).3 (spared-after c.before.before)

loop-less : tie.Need-loop-left-smaller invariant-loop decreases-loop
loop-less c =
    let t = at c.before.before.before in
    omega (arith, left_after c, without-less c.loop-left.left t.0 (spared (force c.before.before.before.before.before.before) (row c.before.before.before.before.before.before) (2 ^ t.0)) t.1)

loop-again : tie.Need-loop-left-preserved invariant-loop decreases-loop
loop-again c =
    let l = c.loop-left in
    let t = at c.before.before.before in
    let i = t.0 in
    let below : i < word_attributes = member-lt l.left i word_attributes (omega (arith, l.invariant.0, c.ranges.among.fits)) t.1 in
    let e : c.difference-lacked.result ≡ without (2 ^ i) (spared (force c.before.before.before.before.before.before) (row c.before.before.before.before.before.before) (2 ^ i)) =
    c.difference-lacked.ensures ∙ ap₂ without t.3 (spared-after c.before.before) in (
      omega (arith, l.invariant.0, left_after c, without-less l.left i (spared (force c.before.before.before.before.before.before) (row c.before.before.before.before.before.before) (2 ^ i)) t.1),
      ap₂ (λ (x y : ℕ). bit_or (bit_or l.lacked x) (bit_and y (lacks (force c.before.before.before.before.before.before) (row c.before.before.before.before.before.before)))) e (left_after c)
          ∙ lacked-turn (force c.before.before.before.before.before.before) (row c.before.before.before.before.before.before) l.lacked l.left i below t.1 ∙ l.invariant.1,
    )

returns : tie.Need-returns invariant-loop decreases-loop
returns c =
    let l = c.loop-left in
    sym (or_zero_r l.lacked) ∙ ap (λ (x : ℕ). bit_or l.lacked (bit_and x (lacks (force c.before.before) (row c.before.before)))) (sym c.loop-left-test.false) ∙ l.invariant.1

pub lacked_among_spec : {M : Type 1} → statement M
lacked_among_spec =
    tie.close
    (tie.spec
    invariant-loop
    decreases-loop
    (λ c κs. search rules)
    (λ c κs. search rules)
    loop-holds
    (λ c κs. search rules)
    (λ c κs. search rules)
    (λ c κs. search rules)
    (λ c κs. search rules)
    loop-less
    loop-again
    returns)
