-- Lines as text, each closed by a line feed (02, request 2/13), and the first lines of lent bytes, split by the rule of request 1/13.
use Rattle.std.specs.Prelude.{List, [], ◌∷◌, ◌++◌, ℕ, ◌+◌, length, take}
use Rattle.table_lines.specs.Lines.{line_feed}
use Rattle.table_lines.specs.Pieces.{lines_of}

-- lines, each closed by a line feed
unfoldable pub closed : List (List ℕ) → List ℕ
closed [] = []
closed (l ∷ ls) = l ++ (line_feed ∷ closed ls)

-- how many bytes lines have, without their ends
unfoldable pub bytes_in : List (List ℕ) → ℕ
bytes_in [] = 0
bytes_in (l ∷ ls) = length l + bytes_in ls

-- the first lines of lent bytes; fewer where there are fewer
abbrev pub first_lines : ℕ → List ℕ → List (List ℕ)
first_lines count bytes = take count (lines_of bytes)
