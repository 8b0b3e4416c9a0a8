-- The reach of a set (01, "Properties, rows, rules", with the marks of 02, request 5/13: M without every property that some row lacks
-- which has P; with no such row it is M). Report 001, section 2.2, has it as the largest conclusion that no example refutes.
use Rattle.std.specs.Prelude.{true, false, List, [], ◌∷◌, ℕ}
use Rattle.theory.specs.Implications.{Implication}
use Rattle.attribute_set.specs.Sets.{inside, full, without}
use Rattle.context.specs.Objects.{Object, has, lacks}

-- x without what the object lacks, where it has all of p
unfoldable pub cut : List (Implication ℕ) → ℕ → Object → ℕ → ℕ
cut rs p o x = elim (inside p (has rs o)) [ true ↦ without x (lacks rs o) | false ↦ x ]

-- each object once, in order
unfoldable pub narrow : List (Implication ℕ) → ℕ → List Object → ℕ → ℕ
narrow rs p [] x = x
narrow rs p (o ∷ os) x = narrow rs p os (cut rs p o x)

-- the reach of p among n attributes, with the implications rs in force
unfoldable pub reach : List (Implication ℕ) → ℕ → List Object → ℕ → ℕ
reach rs n os p = narrow rs p os (full n)
