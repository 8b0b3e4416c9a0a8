-- Where a line ends and the next one begins (02, request 1/13: a line ends at a line feed, at a carriage return followed by a line
-- feed, at a carriage return alone, or at the end of the file). All else goes through `line_of` and its laws.
use Rattle.std.specs.Prelude.{◌≡◌, Bool, true, false, ◌⊎◌, List, [], ◌∷◌, ℕ, zero, suc, ◌+◌, take, drop, eqb}
use Rattle.table_lines.specs.declared.Line.{Line}

abbrev pub line_feed : ℕ
line_feed = 10

abbrev pub carriage_return : ℕ
carriage_return = 13

-- the bytes begin with a line feed
abbrev pub feeds : List ℕ → Bool
feeds [] = false
feeds (b ∷ bs) = eqb b line_feed

-- how many bytes a line end has that begins with a carriage return, by the bytes behind that
abbrev pub returned : List ℕ → ℕ
returned bs = elim (feeds bs) [ true ↦ 2 | false ↦ 1 ]

-- how many bytes the line end has that the bytes begin with; 0 where they begin with none
abbrev pub end_of : List ℕ → ℕ
end_of [] = 0
end_of (b ∷ bs) = elim (eqb b line_feed) [ true ↦ 1 | false ↦ elim (eqb b carriage_return) [ true ↦ returned bs | false ↦ 0 ] ]

-- a line's end, before the bytes behind it: a line feed; a carriage return and a line feed; a carriage return alone, with no line feed
-- behind it
abbrev pub IsEnd : List ℕ → List ℕ → Type 0
IsEnd e behind = (e ≡ line_feed ∷ []) ⊎ ((e ≡ carriage_return ∷ line_feed ∷ []) ⊎ ((e ≡ carriage_return ∷ []) × (feeds behind ≡ false)))

-- a byte that is in no line's end
abbrev pub NoEnd : ℕ → Type 0
NoEnd b = (b ≡ line_feed → ⊥) × (b ≡ carriage_return → ⊥)

-- a line with this many bytes, and this many up to where the next one begins
abbrev pub line : ℕ → ℕ → Line
line size step = record { size = size; step = step }

abbrev pub longer : Line → Line
longer l = line (suc l.size) (suc l.step)

-- the line that begins where the bytes begin
unfoldable pub line_of : List ℕ → Line
line_of [] = line 0 0
line_of (b ∷ bs) = elim (eqb (end_of (b ∷ bs)) 0) [ true ↦ longer (line_of bs) | false ↦ line 0 (end_of (b ∷ bs)) ]

-- the bytes of the line that begins at an offset, and where the next one begins
abbrev pub bytes_at : List ℕ → ℕ → List ℕ
bytes_at file at = take (line_of (drop at file)).size (drop at file)

abbrev pub after : List ℕ → ℕ → ℕ
after file at = at + (line_of (drop at file)).step

-- where the line begins that is k lines further on
unfoldable pub skipped : ℕ → List ℕ → ℕ → ℕ
skipped zero file at = at
skipped (suc k) file at = skipped k file (after file at)
