-- A file as its lines (02, request 1/13): the lines with their ends, and without them. `AreLines` says what the rule is without saying
-- how a line is found; its theorems are in `Pieces/Laws`.
use Rattle.std.specs.Prelude.{◌≡◌, ◌⊎◌, List, [], ◌∷◌, ◌++◌, map, ℕ, zero, suc, ◌<◌, length, take, drop}
use Rattle.theory.specs.Lists.{All}
use Rattle.table_lines.specs.Lines.{NoEnd, IsEnd, line_of}

-- a line: its bytes, and those of its end
pub record Piece : Type 0 where
  pub bytes : List ℕ
  pub end : List ℕ

-- the bytes of lines with their ends
abbrev pub joined : List Piece → List ℕ
joined [] = []
joined (p ∷ ps) = p.bytes ++ (p.end ++ joined ps)

-- the line that begins where the bytes begin
abbrev pub piece_of : List ℕ → Piece
piece_of bs = record { bytes = take (line_of bs).size bs; end = drop (line_of bs).size (take (line_of bs).step bs) }

-- the lines with their ends, from the beginning on, at most k of them
unfoldable pub pieces_from : ℕ → List ℕ → List Piece
pieces_from zero bs = []
pieces_from (suc k) [] = []
pieces_from (suc k) (b ∷ bs) = piece_of (b ∷ bs) ∷ pieces_from k (drop (line_of (b ∷ bs)).step (b ∷ bs))

-- the lines of a file with their ends
abbrev pub pieces : List ℕ → List Piece
pieces file = pieces_from (length file) file

-- the bytes of each line, without its end
abbrev pub without_ends : List Piece → List (List ℕ)
without_ends = map (λ (p : Piece). p.bytes)

-- the lines of a file: their bytes, without their ends
abbrev pub lines_of : List ℕ → List (List ℕ)
lines_of file = without_ends (pieces file)

-- ---- what a line is

-- a line without an end: the last one, which has a byte
abbrev pub IsUnended : Piece → List ℕ → Type 0
IsUnended p behind = (p.end ≡ []) × (behind ≡ []) × (0 < length p.bytes)

-- these are lines with their ends
abbrev pub AreLines : List Piece → Type 0
AreLines [] = Unit {0}
AreLines (p ∷ ps) = All NoEnd p.bytes × (IsEnd p.end (joined ps) ⊎ IsUnended p (joined ps)) × AreLines ps
