-- The reach in cases that a wrong one gets wrong, computed. The set {0, 2} is the word 5, and so on.
use Rattle.std.specs.Prelude.{◌≡◌, refl, [], ◌∷◌}
use Rattle.attribute_set.specs.Sets.{inside, meets, full, without}
use Rattle.attribute_set.specs.Passing.{passing}
use Rattle.implication.specs.Closure.{implication, fire, pass, close, closure}
use Rattle.context.specs.Objects.{object, has, excludes, lacks}
use Rattle.reach.specs.Reach.{cut, narrow, reach}

pub record Cases : Type 0 where
  -- an object that has the set takes away what it lacks, and nothing that is unknown
  pub has_it : reach [] 3 (object 1 4 ∷ []) 1 ≡ 3
  -- one that has not takes nothing away
  pub has_it_not : reach [] 3 (object 1 4 ∷ []) 2 ≡ 7
  -- each object counts, the last one too
  pub each : reach [] 3 (object 1 2 ∷ object 1 4 ∷ []) 1 ≡ 1
  -- {0} → {1}: a row marked 0 takes part in the reach of {1}
  pub by_what_it_has : reach (implication 1 2 ∷ []) 3 (object 1 4 ∷ []) 2 ≡ 3
  -- {0, 1} → {2}: a row marked 0 that lacks 2 takes 1 away too
  pub by_what_it_lacks : reach (implication 3 4 ∷ []) 3 (object 1 4 ∷ []) 1 ≡ 1

pub cases : Cases
unfolding inside meets full without passing fire pass close closure has excludes lacks cut narrow reach
cases = record { has_it = refl; has_it_not = refl; each = refl; by_what_it_has = refl; by_what_it_lacks = refl }
