-- A line of marks as text (02, request 2/13: only `X`, `.` and `?` as marks). An attribute is 01's property.
use Rattle.std.specs.Prelude.{List, [], ◌∷◌, ℕ, zero, suc, ◌/◌, ◌%◌}

-- the mark of an attribute, by its digits in the two words of a row: `X` for yes, `.` for no, `?` where it is unknown
abbrev pub mark_of : ℕ → ℕ → ℕ
mark_of (suc y) m = 88
mark_of zero (suc m) = 46
mark_of zero zero = 63

-- the marks of the first n attributes, of a row with these two words
unfoldable pub marks_text : ℕ → ℕ → ℕ → List ℕ
marks_text zero y m = []
marks_text (suc n) y m = mark_of (y % 2) (m % 2) ∷ marks_text n (y / 2) (m / 2)
