-- The text of a table that passes the checks of a writer, read again: what reading finds, and at which lines its parts begin. An object is
-- 01's row, an attribute its property.
use Rattle.std.specs.Prelude.{◌≡◌, List, ℕ, ◌+◌}
use Rattle.table_lines.specs.Lines.{skipped}
use Rattle.table_lines.specs.Pieces.{lines_of}
use Rattle.table_layout.specs.declared.Layout.{Layout}
use Rattle.table_text.specs.Table.{lines_written, text_of}
use Rattle.written_tables.specs.ReadBack.{FindsTable}

pub record TextRead (n used : ℕ) (words names : List ℕ) : Type 0 where
  pub table : Layout
  pub found : FindsTable (text_of n used words names) n used words names table
  pub lines : lines_of (text_of n used words names) ≡ lines_written n used words names
  pub object_start : table.object_names ≡ skipped 5 (text_of n used words names) 0
  pub attribute_start : table.attribute_names ≡ skipped (5 + used) (text_of n used words names) 0
  pub mark_start : table.marks ≡ skipped (5 + (used + n)) (text_of n used words names) 0
