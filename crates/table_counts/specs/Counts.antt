-- The count lines of a table file (01, "The table file"): 1 to 4 digits, and the count that they are.
use Rattle.std.specs.Prelude.{Bool, true, false, ◌&&◌, List, [], ◌∷◌, ℕ, ◌+◌, ◌*◌, ◌-◌, length, ltb, leb}
use Rattle.table_bytes.specs.Bytes.{is_digit}
use Rattle.line_bytes.specs.Everywhere.{everywhere}

-- the decimal number of digits, the first one counting most
unfoldable pub decimal_from : ℕ → List ℕ → ℕ
decimal_from n [] = n
decimal_from n (b ∷ bs) = decimal_from (n * 10 + (b - 48)) bs

-- 1 to 4 decimal digits
unfoldable pub is_count : List ℕ → Bool
is_count bs = (ltb 0 (length bs) && leb (length bs) 4) && everywhere is_digit bs

-- the count of a count line; 0 where it is none
unfoldable pub count_of : List ℕ → ℕ
count_of bs = elim (is_count bs) [ true ↦ decimal_from 0 bs | false ↦ 0 ]
