-- What the theory says of lists: a property of every member, and a relation between every two members in order.
use mathlib.Core.List.{List, [], ◌∷◌, Memᴰ}

module _ {A : Type 0} where
  -- every member of the list has the property
  abbrev pub All : (A → Type 0) → List A → Type 0
  All P l = (x : A) → Memᴰ x l → P x

  -- R x y for every x that stands before y
  abbrev pub Pairwise : (A → A → Type 0) → List A → Type 0
  Pairwise R [] = Unit {0}
  Pairwise R (x ∷ l) = All (R x) l × Pairwise R l
