-- Refutation in cases that a wrong one gets wrong, computed. The set {0, 2} is the word 5, and so on.
use Rattle.std.specs.Prelude.{◌≡◌, true, false, [], ◌∷◌}
use Rattle.attribute_set.specs.Sets.{inside, meets, full}
use Rattle.attribute_set.specs.Passing.{passing}
use Rattle.implication.specs.Closure.{implication, fire, pass, close, closure}
use Rattle.context.specs.Places.{lowest}
use Rattle.context.specs.Objects.{object, has, excludes, lacks, refutes, first_refuting}

pub record Cases : Type 0 where
  -- to lack some of the conclusion is enough; what is unknown is not lacked
  pub some : refutes [] (object 1 2) (implication 1 6) ≡ true
  pub unknown : refutes [] (object 1 0) (implication 1 6) ≡ false
  -- without the premise nothing is refuted
  pub premise : refutes [] (object 1 2) (implication 5 2) ≡ false
  -- the first object that refutes, the last one too; their number where none does
  pub first : first_refuting [] (object 1 2 ∷ object 1 4 ∷ []) (implication 1 6) ≡ 0
  pub last : first_refuting [] (object 4 2 ∷ object 1 4 ∷ []) (implication 1 6) ≡ 1
  pub none : first_refuting [] (object 4 2 ∷ object 1 0 ∷ []) (implication 1 6) ≡ 2
  -- {0} → {1}: a row with 0 has 1, and one that lacks 1 lacks 0
  pub had : has (implication 1 2 ∷ []) (object 1 0) ≡ 3
  pub lacked : lacks (implication 1 2 ∷ []) (object 0 2) ≡ 3
  -- {0, 1} → {2}: a row with 0 that lacks 2 lacks 1
  pub lacked_with_a_yes : lacks (implication 3 4 ∷ []) (object 1 4) ≡ 6
  -- so such a row refutes {0} → {1}; and under {0} → {1} a row with 0 that lacks 2 refutes {1} → {2}
  pub by_what_it_lacks : refutes (implication 3 4 ∷ []) (object 1 4) (implication 1 2) ≡ true
  pub by_what_it_has : refutes (implication 1 2 ∷ []) (object 1 4) (implication 2 4) ≡ true
  -- {2} → {1}: a row that lacks 2 does not lack 1: the closure of the no marks does not count
  pub of_no_marks : lacks (implication 4 2 ∷ []) (object 1 4) ≡ 4
  -- a row that contradicts lacks every attribute of a word
  pub contradicting : lacks (implication 1 4 ∷ []) (object 1 4) ≡ full 64

pub cases : Cases
unfolding inside meets full passing fire pass close closure lowest has excludes lacks refutes first_refuting
cases = search
