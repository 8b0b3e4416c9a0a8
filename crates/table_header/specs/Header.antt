-- The first five lines of a table file, and the counts in the third and the fourth (01, "The table file"). An object is 01's row, an
-- attribute its property.
use Rattle.std.specs.Prelude.{List, [], ◌∷◌, ℕ}
use Rattle.table_counts.specs.Counts.{count_of}
use Rattle.table_lines.specs.Lines.{bytes_at, after}
use Rattle.table_kinds.specs.declared.Kind.{Kind}
use Rattle.table_kinds.specs.declared.Kind.TheVariants.{Letter, Title, Objects, Attributes, Blank}

-- the offsets of the count lines: the third and the fourth
abbrev pub objects_at : List ℕ → ℕ
objects_at file = after file (after file 0)

abbrev pub attributes_at : List ℕ → ℕ
attributes_at file = after file (objects_at file)

abbrev pub object_count : List ℕ → ℕ
object_count file = count_of (bytes_at file (objects_at file))

abbrev pub attribute_count : List ℕ → ℕ
attribute_count file = count_of (bytes_at file (attributes_at file))

-- the first five lines: `B`, a title, the two counts, an empty line
abbrev pub header : List Kind
header = Letter ∷ Title ∷ Objects ∷ Attributes ∷ Blank ∷ []
