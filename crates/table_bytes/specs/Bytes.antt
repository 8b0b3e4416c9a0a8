-- The bytes of a table file (01, "The table file"): digits and marks.
use Rattle.std.specs.Prelude.{Bool, not, ◌&&◌, ◌||◌, ℕ, eqb, leb}
use Rattle.table_bytes.specs.declared.ByteKind.{ByteKind}
use Rattle.table_bytes.specs.declared.ByteKind.TheVariants.{Digit, Mark, Known}

abbrev pub is_digit : ℕ → Bool
is_digit b = leb 48 b && leb b 57

-- `X` or `x` is yes, `.` no, `?` unknown
abbrev pub is_yes : ℕ → Bool
is_yes b = eqb b 88 || eqb b 120

abbrev pub is_no : ℕ → Bool
is_no b = eqb b 46

abbrev pub is_unknown : ℕ → Bool
is_unknown b = eqb b 63

abbrev pub is_mark : ℕ → Bool
is_mark b = is_yes b || (is_no b || is_unknown b)

-- what is asked of a byte: to be a digit, a mark, or no unknown mark
abbrev pub is_known : ℕ → Bool
is_known b = not (is_unknown b)

abbrev pub passes : ByteKind → ℕ → Bool
passes Digit = is_digit
passes Mark = is_mark
passes Known = is_known
