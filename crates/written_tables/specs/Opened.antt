-- A file whose lines are those of a table, each fine as one of its kind (01, "The table file"), and what an opened table keeps of it. An
-- object is 01's row, an attribute its property.
use Rattle.std.specs.Prelude.{◌≡◌, List, ◌++◌, ℕ, ◌+◌, ◌≤◌, ◌<◌, length, replicate}
use Rattle.session.specs.Limits.{most_attributes, most_objects}
use Rattle.table_kinds.specs.declared.Kind.TheVariants.{Name, Marks}
use Rattle.table_lines.specs.Lines.{skipped}
use Rattle.table_lines.specs.Pieces.{lines_of}
use Rattle.table_walk.proofs.Walk.Lines.{Fine}
use Rattle.table_layout.specs.declared.Layout.{Layout}
use Rattle.table_layout.specs.Layout.{most_bytes, layout}
use Rattle.table_text.specs.Table.{header_lines}

-- n attributes, so many objects, their names, and the lines of marks
pub record HasTable (file : List ℕ) (n used : ℕ) (names marks : List (List ℕ)) : Type 0 where
  pub lines : lines_of file ≡ header_lines used n ++ (names ++ marks)
  pub objects : used ≤ most_objects
  pub some : 0 < n
  pub attributes : n ≤ most_attributes
  pub names_count : length names ≡ used + n
  pub names_fine : Fine (replicate (used + n) Name) names
  pub marks_count : length marks ≡ used
  pub marks_fine : Fine (replicate used (Marks n)) marks
  pub short : length file ≤ most_bytes

-- its counts, and where its parts begin
abbrev pub table_of : List ℕ → ℕ → ℕ → Layout
table_of file n used = layout used n (skipped 5 file 0) (skipped (5 + used) file 0) (skipped (5 + (used + n)) file 0)
