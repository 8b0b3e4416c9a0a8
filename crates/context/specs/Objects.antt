-- Objects (01: rows) of a table with unknown marks, what one counts as having and lacking where implications are in force, and when it
-- refutes an implication (01, "Properties, rows, rules"; 02, request 5/13; report 001, section 2.2, partial contexts, and section 3).
use Rattle.std.specs.Prelude.{Bool, ◌&&◌, List, ℕ, ◌/◌, ◌^◌, min, length}
use Rattle.std.specs.Int.Bits.{bit_or}
use Rattle.theory.specs.Implications.{Implication}
use Rattle.attribute_set.specs.Sets.{inside, meets}
use Rattle.attribute_set.specs.Passing.{passing}
use Rattle.implication.specs.Pairs.{pairs}
use Rattle.implication.specs.Closure.{closure}
use Rattle.context.specs.Places.{lowest}

-- an object (01: a row): the attributes marked yes, then those marked no; the rest are unknown
pub record Object : Type 0 where
  pub yes_marks : ℕ
  pub no_marks : ℕ

abbrev pub object : ℕ → ℕ → Object
object y n = record { yes_marks = y; no_marks = n }

-- the first n objects of a flat slice
abbrev pub objects_of : ℕ → List ℕ → List Object
objects_of n ws = pairs object n ws

-- of the first count objects, how many the slice has whole
abbrev pub whole : ℕ → List ℕ → ℕ
whole count ws = min count (length ws / 2)

-- ---- implied marks

-- so many attributes has a word
abbrev pub word_attributes : ℕ
word_attributes = 64

-- what an object counts as having where the implications rs are in force: the closure of its yes marks
unfoldable pub has : List (Implication ℕ) → Object → ℕ
has rs o = closure rs o.yes_marks

-- with attribute i added to its yes marks, their closure meets its no marks
unfoldable pub excludes : List (Implication ℕ) → Object → ℕ → Bool
excludes rs o i = meets (closure rs (bit_or o.yes_marks (2 ^ i))) o.no_marks

-- what it counts as lacking: each attribute for which that is so.
-- Refutation and reach read an object through these two alone; `Implied` says what they mean.
unfoldable pub lacks : List (Implication ℕ) → Object → ℕ
lacks rs o = passing (excludes rs o) word_attributes

-- o refutes r: it has the whole premise, and lacks some attribute of the conclusion
unfoldable pub refutes : List (Implication ℕ) → Object → Implication ℕ → Bool
refutes rs o r = inside r.premise (has rs o) && meets r.conclusion (lacks rs o)

-- the place of the first object that refutes r; their number where none does
unfoldable pub first_refuting : List (Implication ℕ) → List Object → Implication ℕ → ℕ
first_refuting rs os r = lowest (λ o. refutes rs o r) os

-- ---- written marks

-- o refutes r by its written marks alone: so a complete object is read
unfoldable pub refutes_written : Object → Implication ℕ → Bool
refutes_written o r = inside r.premise o.yes_marks && meets r.conclusion o.no_marks

-- the place of the first object that does; their number where none does
unfoldable pub first_written : List Object → Implication ℕ → ℕ
first_written os r = lowest (λ o. refutes_written o r) os

-- an attribute is marked both yes and no
unfoldable pub marked_twice : Object → Bool
marked_twice o = meets o.yes_marks o.no_marks

-- the closure of the yes marks meets the no marks: no complete row with these marks respects rs
unfoldable pub contradicts : List (Implication ℕ) → Object → Bool
contradicts rs o = meets (closure rs o.yes_marks) o.no_marks
