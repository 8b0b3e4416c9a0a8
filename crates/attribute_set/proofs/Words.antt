-- Words are attribute sets in the sense of the theory: its theorems hold of them.
use Rattle.std.specs.Prelude.{ℕ}
use Rattle.std.specs.Int.Bits.{bit_and, bit_or}
use Rattle.theory.specs.Sets.{Sets}
use Rattle.attribute_set.specs.Sets.{Sub, Apart}
use Rattle.attribute_set.proofs.Sets.Laws.{sub_dec, sub_refl, sub_trans, sub-antisym, and_left, and_right, and-great, or_left, or_right, or-least, strip}
use Rattle.attribute_set.specs.Lectic.{Before}
use Rattle.attribute_set.proofs.Lectic.Laws.{before-trans, before-total, sub-not-before}

abbrev pub words : Sets
words = record {
  S = ℕ;
  ◌⊑◌ = Sub;
  ⊑-dec = sub_dec;
  ⊑_refl = sub_refl;
  ⊑_trans = sub_trans;
  ⊑-antisym = sub-antisym;
  ◌∩◌ = bit_and;
  ∩-left = and_left;
  ∩-right = and_right;
  ∩-great = and-great;
  ◌∪◌ = bit_or;
  ∪-left = or_left;
  ∪-right = or_right;
  ∪-least = or-least;
  Disjoint = Apart;
  strip = λ {a} {b} {c} d h. strip b d h;
  ◌≺◌ = Before;
  ≺-trans = before-trans;
  ≺-cases = before-total;
  ≺-subset = sub-not-before;
}
