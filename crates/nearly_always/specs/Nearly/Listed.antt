-- What the set of the attributes that nearly always come with a premise holds, in 02's words (request 3/13): just those attributes (01:
-- properties) of M outside the premise for which 100 times the number of rows whose yes marks contain premise and attribute exceeds the
-- percentage times the number of those whose yes marks contain the premise. `Theorem` proves it of the definition.
use Rattle.std.specs.Prelude.{List, [], ◌∷◌, ℕ, ◌*◌, ◌^◌, ◌<◌, length}
use Rattle.std.specs.Int.Bits.{bit_or}
use Rattle.attribute_set.specs.Sets.{In, Sub}
use Rattle.context.specs.Objects.{Object}

-- the second list has just those rows of the first whose yes marks contain a set, in their order
pub data Picks (s : ℕ) : List Object → List Object → Type 0 where
  no_rows : Picks s [] []
  picked : (o : Object) {os l : List Object} → Sub s o.yes_marks → Picks s os l → Picks s (o ∷ os) (o ∷ l)
  left_out : (o : Object) {os l : List Object} → (Sub s o.yes_marks → ⊥) → Picks s os l → Picks s (o ∷ os) l

-- attribute p is one of the first n, outside the premise, and more than so many per cent of the rows with the premise have it
pub record Nearly (n percent : ℕ) (os : List Object) (premise p : ℕ) : Type 0 where
  pub of_M : p < n
  pub outside : In p premise → ⊥
  pub exceeding : (all both : List Object) → Picks premise os all → Picks (bit_or premise (2 ^ p)) os both → percent * length all < 100 * length both

-- the set has just these attributes
pub record Lists (n percent : ℕ) (os : List Object) (premise set : ℕ) : Type 0 where
  pub only : (p : ℕ) → In p set → Nearly n percent os premise p
  pub every : (p : ℕ) → Nearly n percent os premise p → In p set
