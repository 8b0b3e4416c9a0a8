-- How a flat slice of words is read two at a time (01, "Properties, rows, rules": a row and a rule are two words each).
-- The reading is total: a word that the slice has not counts as 0, so a short or odd slice has a reading too.
use Rattle.std.specs.Prelude.{List, [], ◌∷◌, ℕ, zero, suc, get_or, drop}

-- the first n pairs of words, each made into an element
unfoldable pub pairs : {A : Type 0} → (ℕ → ℕ → A) → ℕ → List ℕ → List A
pairs make zero ws = []
pairs make (suc n) ws = make (get_or ws 0 0) (get_or ws 1 0) ∷ pairs make n (drop 2 ws)
