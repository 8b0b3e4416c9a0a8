-- The first elements that an iterator takes of what a list has left: one more of them, and none.
use Rattle.std.specs.Prelude.{◌≡◌, List, [], ◌∷◌, ℕ, zero, suc, ◌+◌, ◌<◌, length, take}
use Rattle.std.proofs.Common.{refl, add-one, arith}

module _ {A : Type 0} where
  pub taken : (n k : ℕ) (x : A) (xs ys : List A) → xs ≡ x ∷ ys → k + 1 ≡ n → take n xs ≡ x ∷ take k ys
  taken n k x xs ys e f = rw (e, ← f, add-one)

  pub taken-none : (n : ℕ) (xs : List A) → (0 < n → length xs ≡ 0) → take n xs ≡ []
  taken-none zero xs h = refl
  taken-none (suc n) [] h = refl
  taken-none (suc n) (x ∷ xs) h = absurd (omega (arith, h (omega arith)))
