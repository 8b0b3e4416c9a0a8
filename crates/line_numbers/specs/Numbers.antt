-- The number of the line of a file that an offset lies in.
use Rattle.std.specs.Prelude.{true, false, ◌&&◌, List, ℕ, zero, suc, length, ltb, leb}
use Rattle.table_lines.specs.Lines.{after}

-- how many lines, from the one at an offset on and at most k, end before a place
unfoldable pub ended_before : ℕ → List ℕ → ℕ → ℕ → ℕ
ended_before zero file place at = 0
ended_before (suc k) file place at =
    elim (ltb at (length file) && leb (after file at) place) [ true ↦ suc (ended_before k file place (after file at)) | false ↦ 0 ]

-- the number of the line that an offset lies in, the first being 1; the end of the file lies in the line that is missing there
abbrev pub number_of_line : List ℕ → ℕ → ℕ
number_of_line file place = suc (ended_before (length file) file place 0)
