-- The smallest member of a set, alone in a set: how the members of a set are taken one after the other.
use Rattle.std.specs.Prelude.{◌≡◌, ℕ, ◌^◌, ◌<◌}
use Rattle.attribute_set.specs.Sets.{digit, In}

-- r holds the smallest member of x and nothing else; it is empty where x is
pub record Smallest (x r : ℕ) : Type 0 where
  pub of_none : x ≡ 0 → r ≡ 0
  pub of_some : (x ≡ 0 → ⊥) → (i : ℕ) × In i x × ((j : ℕ) → j < i → digit x j ≡ 0) × (r ≡ 2 ^ i)
