-- The kinds of lines of a table file (01, "The table file"): the number with which a missing line is refused. An object is 01's row,
-- an attribute its property.
use Rattle.std.specs.Prelude.{ℕ}
use Rattle.table_kinds.specs.declared.Kind.{Kind}
use Rattle.table_kinds.specs.declared.Kind.TheVariants.{Letter, Title, Objects, Attributes, Blank, Name, Marks}

-- the number of a missing line
abbrev pub absent : Kind → ℕ
absent Letter = 22
absent Title = 25
absent Objects = 23
absent Attributes = 23
absent Blank = 25
absent Name = 26
absent (Marks n) = 27
