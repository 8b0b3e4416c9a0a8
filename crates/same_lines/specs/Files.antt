-- When two table files say the same (02, request 1/13): the same counts, names and rows, or refusals with the same number at the same line.
-- An object is 01's row, an attribute its property.
use Rattle.std.specs.Prelude.{◌≡◌, List, ℕ, ◌≤◌, length, Result, Ok, Err}
use Rattle.session.specs.declared.Refusal.{Refusal}
use Rattle.table_layout.specs.declared.Layout.{Layout}
use Rattle.table_lines.specs.Lines.{skipped}
use Rattle.table_lines.specs.Pieces.{lines_of}
use Rattle.table_layout.specs.Layout.{opened_of}
use Rattle.complete_tables.specs.Complete.{opened_complete}
use Rattle.table_rows.specs.Rows.{rows_from}
use Rattle.table_names.specs.Names.{object_name, attribute_name}
use Rattle.mark_reading.specs.Marks.{reading, words_read, complete_reading, complete_words_read}

-- offsets of the same line: in each file that many lines stand before it; behind the last line it is the end of the file
abbrev pub SameLine : List ℕ → List ℕ → ℕ → ℕ → Type 0
SameLine f g at at' = (i : ℕ) × (i ≤ length (lines_of f)) × (at ≡ skipped i f 0) × (at' ≡ skipped i g 0)

-- the same number at the same line
abbrev pub SameRefusal : List ℕ → List ℕ → Refusal → Refusal → Type 0
SameRefusal f g r r' = (r.number ≡ r'.number) × SameLine f g r.place r'.place

-- the same counts, and names and marks that begin at the same lines
pub record SameLayout (f g : List ℕ) (l l' : Layout) : Type 0 where
  pub objects : l.objects ≡ l'.objects
  pub attributes : l.attributes ≡ l'.attributes
  pub object_lines : SameLine f g l.object_names l'.object_names
  pub attribute_lines : SameLine f g l.attribute_names l'.attribute_names
  pub lines_of_marks : SameLine f g l.marks l'.marks

-- the same counts, names and rows
pub record SameTable (f g : List ℕ) (l l' : Layout) : Type 0 where
  pub layout : SameLayout f g l l'
  pub object_names : (k : ℕ) → object_name f l k ≡ object_name g l' k
  pub attribute_names : (k : ℕ) → attribute_name f l k ≡ attribute_name g l' k
  pub rows : rows_from l.objects f l.marks ≡ rows_from l'.objects g l'.marks

-- both answers are tables that say the same, or both are refusals that do
abbrev pub SameAnswer : List ℕ → List ℕ → Result Layout Refusal → Result Layout Refusal → Type 0
SameAnswer f g (Ok l) (Ok l') = SameTable f g l l'
SameAnswer f g (Ok l) (Err r') = ⊥
SameAnswer f g (Err r) (Ok l') = ⊥
SameAnswer f g (Err r) (Err r') = SameRefusal f g r r'

-- opened, and opened as a complete table; read into lent row words, and as a complete table: the same answer and the same words
pub record SaySame (f g : List ℕ) : Type 0 where
  pub opened : SameAnswer f g (opened_of f) (opened_of g)
  pub complete_opened : SameAnswer f g (opened_complete f) (opened_complete g)
  pub read : (words : List ℕ) → SameAnswer f g (reading (length words) f) (reading (length words) g) × (words_read f words ≡ words_read g words)
  pub read_complete : (words : List ℕ)
      → SameAnswer f g (complete_reading (length words) f) (complete_reading (length words) g) × (complete_words_read f words ≡ complete_words_read g words)
