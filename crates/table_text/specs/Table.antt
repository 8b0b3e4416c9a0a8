-- The text of a table file (02, request 2/13): `B`, an empty title, the two counts without leading zeros, an empty line, the names of the
-- objects (01: rows), the names of the attributes (01: properties), and a line of marks for each object; every line is closed by a line
-- feed.
use Rattle.std.specs.Prelude.{List, [], ◌∷◌, ◌++◌, map, ℕ, length, take, drop}
use Rattle.context.specs.Objects.{Object, objects_of}
use Rattle.table_lines.specs.Pieces.{lines_of}
use Rattle.text.specs.Text.{number_text}
use Rattle.marks_text.specs.Marks.{marks_text}
use Rattle.closed_lines.specs.Closed.{closed}

-- the first five lines, with the two counts
abbrev pub header_lines : ℕ → ℕ → List (List ℕ)
header_lines objects attributes = (66 ∷ []) ∷ [] ∷ number_text objects ∷ number_text attributes ∷ [] ∷ []

-- the line of marks of each object
abbrev pub mark_lines : ℕ → List Object → List (List ℕ)
mark_lines n = map (λ (o : Object). marks_text n o.yes_marks o.no_marks)

-- the lines of a table with n attributes: its objects, their names, the attributes' names
abbrev pub table_lines : ℕ → List Object → List (List ℕ) → List (List ℕ) → List (List ℕ)
table_lines n os objectNames attributeNames =
    header_lines (length os) n ++ (objectNames ++ (attributeNames ++ mark_lines n os))

-- the text of n attributes, the rows in use of lent row words, and lent names: those of the objects, then those of the attributes, as
-- lines; lines past the last name needed are not read
abbrev pub lines_written : ℕ → ℕ → List ℕ → List ℕ → List (List ℕ)
lines_written n used words names =
    table_lines n (objects_of used words) (take used (lines_of names)) (take n (drop used (lines_of names)))

abbrev pub text_of : ℕ → ℕ → List ℕ → List ℕ → List ℕ
text_of n used words names = closed (lines_written n used words names)
