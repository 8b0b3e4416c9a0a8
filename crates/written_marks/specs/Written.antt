-- The reach by written marks: as document 01 had it before request 5/13 of 02. An interview of a complete table needs no more, since a
-- complete row that does not contradict counts as having and lacking just what is written (`Laws`).
use Rattle.std.specs.Prelude.{true, false, List, [], ◌∷◌, ℕ}
use Rattle.attribute_set.specs.Sets.{inside, full, without}
use Rattle.context.specs.Objects.{Object}

-- x without what the object marks no, where it marks all of p yes
unfoldable pub cut_written : ℕ → Object → ℕ → ℕ
cut_written p o x = elim (inside p o.yes_marks) [ true ↦ without x o.no_marks | false ↦ x ]

-- each object once, in order
unfoldable pub narrow_written : ℕ → List Object → ℕ → ℕ
narrow_written p [] x = x
narrow_written p (o ∷ os) x = narrow_written p os (cut_written p o x)

-- the reach of p among n attributes, by written marks
unfoldable pub reach_written : ℕ → List Object → ℕ → ℕ
reach_written n os p = narrow_written p os (full n)
