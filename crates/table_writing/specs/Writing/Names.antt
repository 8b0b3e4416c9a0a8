-- Names lent as lines, in 02's words (request 2/13: 26 for a name that is missing, empty or over 80 bytes, with its offset): a line that is a
-- name, one that is none, and the first of the lines needed that is none.
use Rattle.std.specs.Prelude.{◌≡◌, ◌⊎◌, List, [], ℕ, ◌≤◌, ◌<◌, length, get_or}
use Rattle.table_lines.specs.Lines.{skipped}
use Rattle.table_lines.specs.Pieces.{lines_of}
use Rattle.line_tests.specs.Tests.{most_name_bytes}

-- the line with this number, counted from 0, is there and is a name
abbrev pub GoodName : List ℕ → ℕ → Type 0
GoodName names k =
    let name = get_or (lines_of names) k [] in
    (k < length (lines_of names)) × (0 < length name) × (length name ≤ most_name_bytes)

-- it is missing, empty or over 80 bytes
abbrev pub BadName : List ℕ → ℕ → Type 0
BadName names k =
    let name = get_or (lines_of names) k [] in
    (length (lines_of names) ≤ k) ⊎ ((length name ≡ 0) ⊎ (most_name_bytes < length name))

-- the first of count lines that is no name has number k and begins at an offset
pub record FirstBad (names : List ℕ) (count k at : ℕ) : Type 0 where
  pub needed : k < count
  pub bad : BadName names k
  pub before : (i : ℕ) → i < k → GoodName names i
  pub begins : at ≡ skipped k names 0
  pub missing : length (lines_of names) ≤ k → at ≡ length names
