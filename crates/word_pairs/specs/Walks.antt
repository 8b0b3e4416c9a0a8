-- What a search and a fold give over the pairs of words of a flat slice, told by the results that a test or a change may have at a pair.
-- A pair that the slice has not whole is not looked at.
use Rattle.std.specs.Prelude.{◌≡◌, Bool, true, false, List, ℕ, zero, suc, ◌+◌, ◌*◌, ◌/◌, ◌^◌, ◌<◌, ◌≤◌, min, length, get_or}

-- k is the place of the first of the first count pairs at which the test holds; count where it holds at none
pub record FirstThat (test : ℕ → ℕ → Bool → Type 0) (count : ℕ) (ws : List ℕ) (k : ℕ) : Type 0 where
  pub most : k ≤ count
  pub before : (i : ℕ) → i < k → i < length ws / 2 → test (get_or ws (i * 2) 0) (get_or ws (i * 2 + 1) 0) false
  pub at : k < count → (k < length ws / 2) × test (get_or ws (k * 2) 0) (get_or ws (k * 2 + 1) 0) true

-- the first n pairs, one after the other, can make y of x, by way of words
unfoldable pub Makes : (ℕ → ℕ → ℕ → ℕ → Type 0) → List ℕ → ℕ → ℕ → ℕ → Type 0
Makes change ws zero x y = x ≡ y
Makes change ws (suc n) x y =
    (z : ℕ) × (z < 2 ^ 64) × Makes change ws n x z × change (get_or ws (n * 2) 0) (get_or ws (n * 2 + 1) 0) z y

-- those of the first count that the slice has whole can
abbrev pub FoldPairs : (ℕ → ℕ → ℕ → ℕ → Type 0) → ℕ → List ℕ → ℕ → ℕ → Type 0
FoldPairs change count ws x y = Makes change ws (min count (length ws / 2)) x y
