-- The number of a writer's refusal, and the place that it names (02, request 2/13): 1 to 5, 26 or 30; in 5 the lowest row that marks an
-- attribute both ways, in 26 where the first line begins that is no name, else 0.
use Rattle.std.specs.Prelude.{◌≡◌, ◌⊎◌, List, ℕ, ◌+◌, ◌≤◌, ◌<◌}
use Rattle.session.specs.declared.Refusal.{Refusal}
use Rattle.context.specs.Objects.{objects_of, marked_twice}
use Rattle.demands.proofs.Facts.Refused.{Lowest}
use Rattle.table_writing.specs.Writing.Names.{FirstBad}

pub record RightPlace (n used : ℕ) (words names : List ℕ) (r : Refusal) : Type 0 where
  pub number : ((0 < r.number) × (r.number ≤ 5)) ⊎ ((r.number ≡ 26) ⊎ (r.number ≡ 30))
  pub five : r.number ≡ 5 → Lowest marked_twice (objects_of used words) r.place
  pub name : r.number ≡ 26 → (k : ℕ) × FirstBad names (used + n) k r.place
  pub other : (r.number ≡ 5 → ⊥) → (r.number ≡ 26 → ⊥) → r.place ≡ 0
