-- The tests of one line of a table file (01, "The table file"): the letter, a count in a range, a name, marks, and the number of a line
-- that does not pass.
use Rattle.std.specs.Prelude.{Bool, true, false, ◌&&◌, List, ℕ, zero, suc, length, get_or, eqb, ltb, leb, Result, Ok, Err}
use Rattle.table_bytes.specs.Bytes.{is_mark}
use Rattle.line_bytes.specs.Everywhere.{everywhere}
use Rattle.table_counts.specs.Counts.{is_count, count_of}

-- the most bytes of a title or a name
abbrev pub most_name_bytes : ℕ
most_name_bytes = 80

-- the number with which a line is refused unless it passes; 0 where it passes
abbrev pub refuse_unless : Bool → ℕ → ℕ
refuse_unless true k = 0
refuse_unless false k = k

-- a count line: 23 where it is no count, 24 where the count is not from least to most
abbrev pub count_fault : ℕ → ℕ → List ℕ → ℕ
count_fault least most bs =
    elim (is_count bs) [ true ↦ refuse_unless (leb least (count_of bs) && leb (count_of bs) most) 24 | false ↦ 23 ]

-- the outcome of a test that refuses a line with this number; 0 where the line passes
abbrev pub outcome : ℕ → Result (Unit {0}) ℕ
outcome zero = Ok tt
outcome (suc k) = Err (suc k)

abbrev pub is_letter : List ℕ → Bool
is_letter bs = eqb (length bs) 1 && eqb (get_or bs 0 0) 66

abbrev pub is_name : List ℕ → Bool
is_name bs = ltb 0 (length bs) && leb (length bs) most_name_bytes

abbrev pub is_marks : ℕ → List ℕ → Bool
is_marks n bs = eqb (length bs) n && everywhere is_mark bs
