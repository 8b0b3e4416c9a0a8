-- When reading a file finds a table that was to be written (02, request 2/13: the reader must find the same rows and names in what was
-- written). An object is 01's row, an attribute its property.
use Rattle.std.specs.Prelude.{◌≡◌, false, List, [], ◌++◌, ℕ, ◌+◌, ◌*◌, ◌/◌, ◌≤◌, ◌<◌, length, take, drop, get_or, Ok}
use Rattle.session.specs.Limits.{most_objects, bad_length}
use Rattle.context.specs.Objects.{objects_of}
use Rattle.table_lines.specs.Pieces.{lines_of}
use Rattle.table_layout.specs.declared.Layout.{Layout}
use Rattle.table_layout.specs.Layout.{opened_of}
use Rattle.table_rows.specs.Rows.{rows_from}
use Rattle.table_names.specs.Names.{object_name, attribute_name}
use Rattle.mark_reading.specs.Marks.{reading, words_read}

-- The reader accepts the file, and finds n attributes, exactly the rows in use of the row words, also word for word in any row words that
-- have places for them, and the lent names byte for byte: those of the objects, then those of the attributes.
pub record FindsTable (file : List ℕ) (n used : ℕ) (words names : List ℕ) (l : Layout) : Type 0 where
  pub opened : opened_of file ≡ Ok l
  pub objects : l.objects ≡ used
  pub attributes : l.attributes ≡ n
  pub rows : rows_from l.objects file l.marks ≡ objects_of used words
  pub read : (ws : List ℕ) → bad_length most_objects (length ws) ≡ false → used ≤ length ws / 2
      → (reading (length ws) file ≡ Ok l) × (words_read file ws ≡ take (used * 2) words ++ drop (used * 2) ws)
  pub object_names : (k : ℕ) → k < used → object_name file l k ≡ get_or (lines_of names) k []
  pub attribute_names : (k : ℕ) → k < n → attribute_name file l k ≡ get_or (lines_of names) (used + k) []
