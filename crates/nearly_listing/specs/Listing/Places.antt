-- The number of a refusal of listing, and the place that it names (02, request 3/13): 1 to 5 or 31; in 5 the lowest row that marks an
-- attribute both ways, else 0.
use Rattle.std.specs.Prelude.{◌≡◌, ◌⊎◌, List, ℕ, ◌≤◌, ◌<◌}
use Rattle.session.specs.declared.Refusal.{Refusal}
use Rattle.context.specs.Objects.{objects_of, marked_twice}
use Rattle.demands.proofs.Facts.Refused.{Lowest}

pub record RightPlace (used : ℕ) (words : List ℕ) (r : Refusal) : Type 0 where
  pub number : ((0 < r.number) × (r.number ≤ 5)) ⊎ (r.number ≡ 31)
  pub five : r.number ≡ 5 → Lowest marked_twice (objects_of used words) r.place
  pub other : (r.number ≡ 5 → ⊥) → r.place ≡ 0
