-- Nearly always (02, request 3/13): the attributes (01: properties) outside a premise that more than so many per cent of the rows with the
-- premise have. Only a written yes counts: unknown is not yes. `Listed` says what the set holds, with both counts as lengths of lists of
-- rows, and `Theorem` that it does.
use Rattle.std.specs.Prelude.{◌≡◌, Bool, true, false, List, [], ◌∷◌, ℕ, ◌*◌, ◌/◌, ◌^◌, ◌≤◌, length, ltb}
use Rattle.std.specs.Int.Bits.{bit_or}
use Rattle.session.specs.Limits.{most_attributes, most_objects}
use Rattle.attribute_set.specs.Sets.{inside, without}
use Rattle.attribute_set.specs.Passing.{passing}
use Rattle.context.specs.Objects.{Object, objects_of}
pub mod Listed
pub mod Counting

-- the rows whose yes marks contain a set
unfoldable pub having : ℕ → List Object → List Object
having s [] = []
having s (o ∷ os) = elim (inside s o.yes_marks) [ true ↦ o ∷ having s os | false ↦ having s os ]

-- how many these are: the support of the set
abbrev pub support : ℕ → List Object → ℕ
support s os = length (having s os)

-- the percentage times the rows with the premise is exceeded by 100 times the rows with the premise and attribute p
unfoldable pub exceeds : ℕ → List Object → ℕ → ℕ → Bool
exceeds percent os premise p = ltb (percent * support premise os) (100 * support (bit_or premise (2 ^ p)) os)

-- those of M outside the premise that the rows with the premise nearly always have
unfoldable pub nearly_always : ℕ → ℕ → List Object → ℕ → ℕ
nearly_always n percent os premise = without (passing (exceeds percent os premise) n) premise

-- a percentage is at most so many
abbrev pub most_percent : ℕ
most_percent = 99

-- so many attributes, rows in use, row words and per cent: as checks 1 to 3 and 31 leave them
pub record InRange (n used words percent : ℕ) : Type 0 where
  pub attributes : n ≤ most_attributes
  pub objects : used ≤ most_objects
  pub places : used ≤ words / 2
  pub percentage : percent ≤ most_percent

-- a test of a fact
pub record TestOf (b : Bool) (P : Type 0) : Type 0 where
  pub so : b ≡ true → P
  pub seen : P → b ≡ true

-- what is given for any numbers: the set where they are in range, else the empty one
pub record Gives (n used : ℕ) (words : List ℕ) (premise percent set : ℕ) : Type 0 where
  pub in_range : InRange n used (length words) percent → set ≡ nearly_always n percent (objects_of used words) premise
  pub out_of_range : (InRange n used (length words) percent → ⊥) → set ≡ 0
