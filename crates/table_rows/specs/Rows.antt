-- The rows of a table file: one line of marks each, as the two words of an object of the context (01, "The table file"; byte j is the
-- mark of attribute j, 01's property).
use Rattle.std.specs.Prelude.{Bool, true, false, List, [], ◌∷◌, ℕ, zero, suc, ◌+◌, ◌*◌}
use Rattle.table_lines.specs.Lines.{bytes_at, after}
use Rattle.context.specs.Objects.{Object, object}
use Rattle.table_bytes.specs.Bytes.{is_yes, is_no}

abbrev pub bit_of : Bool → ℕ
bit_of true = 1
bit_of false = 0

-- the word whose bit j says whether byte j passes the test
unfoldable pub word_of : (ℕ → Bool) → List ℕ → ℕ
word_of f [] = 0
word_of f (b ∷ bs) = word_of f bs * 2 + bit_of (f b)

-- a row: the attributes marked yes, then those marked no
abbrev pub row_of : List ℕ → Object
row_of bs = object (word_of is_yes bs) (word_of is_no bs)

-- the rows of count lines of marks, from an offset on
unfoldable pub rows_from : ℕ → List ℕ → ℕ → List Object
rows_from zero file at = []
rows_from (suc k) file at = row_of (bytes_at file at) ∷ rows_from k file (after file at)
