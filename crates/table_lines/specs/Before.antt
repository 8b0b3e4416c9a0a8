-- The rule before request 1/13 (01, "The table file": a line ends at a line feed, with a carriage return just before it taken away, or
-- at the end of the file), and the files in which it finds the same lines.
use Rattle.std.specs.Prelude.{◌≡◌, true, false, ◌&&◌, List, [], ◌∷◌, ℕ, suc, ◌<◌, length, get_or, eqb}
use Rattle.table_lines.specs.declared.Line.{Line}
use Rattle.table_lines.specs.Lines.{line_feed, carriage_return, feeds, line, longer}

-- the line that began where the bytes begin
unfoldable pub line_before : List ℕ → Line
line_before [] = line 0 0
line_before (b ∷ bs) =
    elim (eqb b line_feed) [
      | true ↦ line 0 1
      | false ↦ elim (eqb b carriage_return && feeds bs) [ true ↦ line 0 2 | false ↦ longer (line_before bs) ]
    ]

-- every carriage return stands before a line feed
abbrev pub ReturnsFed : List ℕ → Type 0
ReturnsFed file = (i : ℕ) → i < length file → get_or file i 0 ≡ carriage_return → get_or file (suc i) 0 ≡ line_feed
