-- The next closed set in cases that a wrong search gets wrong, computed. The set {0, 2} is the word 5, and so on.
use Rattle.std.specs.Prelude.{◌≡◌, refl, [], ◌∷◌}
use Rattle.attribute_set.specs.Sets.{inside}
use Rattle.implication.specs.Closure.{implication, fire, pass, close, closure}
use Rattle.next_set.specs.Next.{fits, next_below, next}

pub record Cases : Type 0 where
  -- no implications: after {} comes the set of the last attribute, after {1, 2} that of attribute 0
  pub last_attribute : next [] 3 0 ≡ 4
  pub attribute_0 : next [] 3 6 ≡ 1
  -- {2} → {1}: the candidate at 2 gains 1, so that {1} comes after {}
  pub gains : next (implication 4 2 ∷ []) 3 0 ≡ 2
  -- {0} → {2}: after {1, 2} comes {0, 2}, which is closed, not {0}
  pub closed : next (implication 1 4 ∷ []) 3 6 ≡ 5

pub cases : Cases
unfolding inside fire pass close closure fits next_below
cases = record { last_attribute = refl; attribute_0 = refl; gains = refl; closed = refl }
