-- The rows that have a set, counted one after the other (`support-has`, `support-lacks`), also where the set is a premise and one
-- attribute (`support-with`, `support-without`); they are at most as many as there are rows (`support-most`).
use Rattle.std.specs.Prelude.{◌≡◌, refl, Bool, true, false, ◌⊎◌, List, [], ◌∷◌, ℕ, suc, ◌+◌, ◌^◌, ◌≤◌, length}
use Rattle.std.proofs.Common.{inl, inr, arith}
use Rattle.std.specs.Int.Bits.{bit_or}
use Rattle.attribute_set.specs.Sets.{digit, In, inside}
use Rattle.attribute_set.proofs.Sets.Laws.{member-cases, digit_lt, inside-sub, sub-inside, outside-sub, not-inside, sub_trans, or_left, or_right, or-least}
use Rattle.attribute_set.proofs.Lectic.Laws.{single-at, single-sub}
use Rattle.context.specs.Objects.{Object}
use Rattle.nearly_always.specs.Nearly.{having, support}

-- ---- rows that have a set

module _ (s : ℕ) (o : Object) (os : List Object) where
  pub support-has : inside s o.yes_marks ≡ true → support s (o ∷ os) ≡ suc (support s os)
  unfolding having
  support-has e = rw (e, having)

  pub support-lacks : inside s o.yes_marks ≡ false → support s (o ∷ os) ≡ support s os
  unfolding having
  support-lacks e = rw (e, having)

pub support-none : (s : ℕ) → support s [] ≡ 0
unfolding having
support-none s = refl

pub support-most : (s : ℕ) (os : List Object) → support s os ≤ length os
unfolding having
support-most s [] = omega arith
support-most s (o ∷ os) = go (inside s o.yes_marks) refl (support-most s os)
  where
    go : (b : Bool) → inside s o.yes_marks ≡ b → support s os ≤ length os → support s (o ∷ os) ≤ suc (length os)
    go true e h = omega (arith, support-has s o os e, h)
    go false e h = omega (arith, support-lacks s o os e, h)

-- ---- premise and attribute

module _ (premise j y : ℕ) where
  with-both : inside premise y ≡ true → In j y → inside (bit_or premise (2 ^ j)) y ≡ true
  with-both e h = sub-inside (or-least (inside-sub premise y e) (single-sub j y h))

  without-attribute : digit y j ≡ 0 → inside (bit_or premise (2 ^ j)) y ≡ false
  without-attribute e = not-inside (λ s. absurd (omega (arith, e, s.at j ((or_right premise (2 ^ j)).at j (single-at j)))))

  without-premise : inside premise y ≡ false → inside (bit_or premise (2 ^ j)) y ≡ false
  without-premise e = not-inside (λ s. outside-sub premise y e (sub_trans (or_left premise (2 ^ j)) s))

-- of a row with the premise the mark decides; a row without it has not both
module _ (premise j : ℕ) (o : Object) (os : List Object) where
  pub support-with : inside premise o.yes_marks ≡ true
      → support (bit_or premise (2 ^ j)) (o ∷ os) ≡ digit o.yes_marks j + support (bit_or premise (2 ^ j)) os
  support-with e = go (member-cases o.yes_marks j)
    where
      go : (In j o.yes_marks) ⊎ (digit o.yes_marks j ≡ 0)
          → support (bit_or premise (2 ^ j)) (o ∷ os) ≡ digit o.yes_marks j + support (bit_or premise (2 ^ j)) os
      go (inl h) = omega (arith, h, support-has (bit_or premise (2 ^ j)) o os (with-both premise j o.yes_marks e h))
      go (inr h) = omega (arith, h, support-lacks (bit_or premise (2 ^ j)) o os (without-attribute premise j o.yes_marks h))

  pub support-without : inside premise o.yes_marks ≡ false
      → support (bit_or premise (2 ^ j)) (o ∷ os) ≡ support (bit_or premise (2 ^ j)) os
  support-without e = support-lacks (bit_or premise (2 ^ j)) o os (without-premise premise j o.yes_marks e)

-- no more rows have both than have the premise
pub support-fewer : (premise j : ℕ) (os : List Object) → support (bit_or premise (2 ^ j)) os ≤ support premise os
support-fewer premise j [] = omega (arith, support-none premise, support-none (bit_or premise (2 ^ j)))
support-fewer premise j (o ∷ os) = go (inside premise o.yes_marks) refl (support-fewer premise j os)
  where
    go : (b : Bool) → inside premise o.yes_marks ≡ b → support (bit_or premise (2 ^ j)) os ≤ support premise os
        → support (bit_or premise (2 ^ j)) (o ∷ os) ≤ support premise (o ∷ os)
    go true e h = omega (arith, support-with premise j o os e, support-has premise o os e, digit_lt o.yes_marks j, h)
    go false e h = omega (arith, support-without premise j o os e, support-lacks premise o os e, h)
