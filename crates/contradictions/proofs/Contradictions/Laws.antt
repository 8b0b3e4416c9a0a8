-- Why the rows that a slice has not contradict nothing.
use Rattle.std.specs.Prelude.{◌≡◌, false, List, ℕ}
use Rattle.std.proofs.Common.{arith}
use Rattle.theory.specs.Implications.{Implication}
use Rattle.attribute_set.proofs.Sets.Laws.{apart-meets, digit-none}
use Rattle.context.specs.Objects.{object, contradicts}

-- a row without no marks contradicts nothing
pub blank-idle : (rs : List (Implication ℕ)) (a : ℕ) → contradicts rs (object a 0) ≡ false
unfolding contradicts
blank-idle rs a = apart-meets (record { at = λ i h k. omega (arith, digit-none i) })
