-- The limits of a session (01, "Properties, rows, rules"), and the lengths of lent words that keep to them.
use Rattle.std.specs.Prelude.{Bool, not, ◌||◌, ℕ, ◌*◌, ◌%◌, eqb, ltb}

-- 64 attributes (01: properties), 512 objects (rows), 256 implications (rules)
abbrev pub most_attributes : ℕ
most_attributes = 64

abbrev pub most_objects : ℕ
most_objects = 512

abbrev pub most_implications : ℕ
most_implications = 256

-- a lent length is odd or above its limit, two words to a row or a rule
unfoldable pub bad_length : ℕ → ℕ → Bool
bad_length most words = not (eqb (words % 2) 0) || ltb (most * 2) words
