-- The order in a case that a wrong one gets wrong: {2} comes before {1}, and {1} before {0}. The set {i} is the word 2 ^ i.
use Rattle.std.specs.Prelude.{◌≡◌, refl, ℕ}
use Rattle.std.proofs.Common.{subst, arith}
use Rattle.attribute_set.specs.Sets.{digit}
use Rattle.attribute_set.specs.Lectic.{Before}

pub record Cases : Type 0 where
  pub two_one : Before 4 2
  pub one_zero : Before 2 1

pub cases : Cases
cases = record {
  two_one = record {
    at = 1;
    lacks = refl;
    holds = refl;
    agree = λ i h. subst (λ (k : ℕ). digit 4 k ≡ digit 2 k) {x = 0} (omega arith) refl;
  };
  one_zero = record { at = 0; lacks = refl; holds = refl; agree = λ i h. absurd (omega arith) };
}
