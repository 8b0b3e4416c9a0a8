-- The premises that are listed (02, request 3/13): all sets of M with one or two attributes (01: properties), in the interview's order of
-- sets (01, "The interview"; the lectic order). `Theorem` says so of the list.
use Rattle.std.specs.Prelude.{◌≡◌, true, false, ◌⊎◌, ℕ, zero, suc, ◌+◌, ◌^◌, ◌<◌, length, get_or, ltb}
use mathlib.Core.List.{List, [], ◌∷◌, ◌++◌, Memᴰ}
use Rattle.attribute_set.specs.Sets.{In, Sub, full}
use Rattle.attribute_set.specs.Lectic.{Before}

-- attribute i with each one above it and below k, the highest first
unfoldable pub pairs_with : ℕ → ℕ → List ℕ
pairs_with i zero = []
pairs_with i (suc j) = elim (ltb i j) [ true ↦ (2 ^ i + 2 ^ j) ∷ pairs_with i j | false ↦ [] ]

-- of n attributes, for each one below k, the highest first: the attribute alone, then with each one above it
unfoldable pub premises_below : ℕ → ℕ → List ℕ
premises_below n zero = []
premises_below n (suc i) = 2 ^ i ∷ (pairs_with i n ++ premises_below n i)

-- of n attributes, all
abbrev pub premises : ℕ → List ℕ
premises n = premises_below n n

-- ---- what the list is

-- a set of one or two attributes: it has one and another, which may be the same, and no third
pub record OneOrTwo (s : ℕ) : Type 0 where
  pub one : ℕ
  pub another : ℕ
  pub has_one : In one s
  pub has_another : In another s
  pub no_third : (k : ℕ) → In k s → (k ≡ one) ⊎ (k ≡ another)

-- the list has all sets of M with one or two attributes and no others, each once, in the lectic order
pub record ListsShort (n : ℕ) (l : List ℕ) : Type 0 where
  pub all : (s : ℕ) → Sub s (full n) → OneOrTwo s → Memᴰ s l
  pub within : (s : ℕ) → Memᴰ s l → Sub s (full n)
  pub short : (s : ℕ) → Memᴰ s l → OneOrTwo s
  pub once : (i j : ℕ) → i < length l → j < length l → get_or l i 0 ≡ get_or l j 0 → i ≡ j
  pub in_order : (i j : ℕ) → i < j → j < length l → Before (get_or l i 0) (get_or l j 0)
