-- The counts of one pass over the rows: how many rows have the premise, and how many of them have each attribute. What each part of the
-- pass does to them.
use Rattle.std.specs.Prelude.{◌≡◌, Bool, true, false, List, ◌∷◌, ℕ, ◌+◌, ◌*◌, ◌/◌, ◌^◌, ◌≤◌, ◌<◌, length, get_or, ltb}
use Rattle.std.specs.Int.Bits.{bit_or}
use Rattle.session.specs.Limits.{most_objects}
use Rattle.attribute_set.specs.Sets.{digit}
use Rattle.context.specs.Objects.{Object, object}
use Rattle.nearly_always.specs.Nearly.{support}

-- of n attributes: nothing is counted yet; no count is above the rows of a table
pub record Zero (n : ℕ) (counts : List ℕ) : Type 0 where
  pub at : (j : ℕ) → j < n → get_or counts j 0 ≡ 0

pub record Small (n : ℕ) (counts : List ℕ) : Type 0 where
  pub at : (j : ℕ) → j < n → get_or counts j 0 ≤ most_objects

-- one more for each attribute of a row
pub record Adds (n yes : ℕ) (before after : List ℕ) : Type 0 where
  pub same_length : length after ≡ length before
  pub at : (j : ℕ) → j < n → get_or after j 0 ≡ get_or before j 0 + digit yes j

-- so it is for the attributes below j; what is left of the row are those from j on
pub record Adding (yes j left : ℕ) (before now : List ℕ) : Type 0 where
  pub same_length : length now ≡ length before
  pub rest : left ≡ yes / 2 ^ j
  pub below : (i : ℕ) → i < j → get_or now i 0 ≡ get_or before i 0 + digit yes i
  pub above : (i : ℕ) → j ≤ i → get_or now i 0 ≡ get_or before i 0

-- the rows with the premise are counted, and those of them with each attribute
pub record Counted (n : ℕ) (os : List Object) (premise total : ℕ) (counts : List ℕ) : Type 0 where
  pub with_premise : total ≡ support premise os
  pub one_attribute : (j : ℕ) → j < n → get_or counts j 0 ≡ support (bit_or premise (2 ^ j)) os

-- so it is but for the rest of the rows
pub record CountedBut (n : ℕ) (rest os : List Object) (premise total : ℕ) (counts : List ℕ) : Type 0 where
  pub with_premise : total + support premise rest ≡ support premise os
  pub one_attribute : (j : ℕ) → j < n → get_or counts j 0 + support (bit_or premise (2 ^ j)) rest ≡ support (bit_or premise (2 ^ j)) os

-- a row with these yes marks is counted, whatever it marks no
pub record CountsRow (n premise yes total : ℕ) (before : List ℕ) (total' : ℕ) (after : List ℕ) : Type 0 where
  pub same_length : length after ≡ length before
  pub counted : (rest os : List Object) (no : ℕ) → CountedBut n (object yes no ∷ rest) os premise total before → CountedBut n rest os premise total' after

-- ---- counts that exceed

-- the definition's test, by the counts
abbrev pub exceeds_by : ℕ → ℕ → List ℕ → ℕ → Bool
exceeds_by percent total counts j = ltb (percent * total) (100 * get_or counts j 0)

-- a set of attributes below j, with j where its count exceeds
abbrev pub joined_by : ℕ → ℕ → ℕ → ℕ → ℕ → ℕ
joined_by percent total counted j set = elim (ltb (percent * total) (100 * counted)) [ true ↦ 2 ^ j + set | false ↦ set ]
