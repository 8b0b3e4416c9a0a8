-- What implied marks mean (02, request 5/13), so that nobody need trust the definitions of `has` and `lacks`: an object that does not
-- contradict the implications in force has just what every complete object has that extends it and respects them, and lacks just what
-- none of these has. A complete object that does not contradict has just its yes marks and lacks just its no marks. One that
-- contradicts has no completion, and lacks every attribute of a word. `Theorem` proves all of it.
use Rattle.std.specs.Prelude.{◌≡◌, ◌↔◌, true, false, List, ℕ, ◌^◌, ◌<◌, ◌≤◌}
use Rattle.theory.specs.Lists.{All}
use Rattle.theory.specs.Implications.{Implication, Closed, Over}
use Rattle.attribute_set.specs.Sets.{In, Sub, full, meets}
use Rattle.attribute_set.proofs.Words.{words}
use Rattle.context.specs.Objects.{Object, word_attributes, has, lacks, contradicts}
use Rattle.context.specs.Tables.{Complete, Extends}

-- c is a complete object over n attributes that extends o and respects the implications
pub record Completion (n : ℕ) (rs : List (Implication ℕ)) (o c : Object) : Type 0 where
  pub complete : Complete n c
  pub extends : Extends o c
  pub respects : Closed words rs c.yes_marks

-- o has marks of the first n attributes alone, the implications are over these, and o does not contradict them
pub record Consistent (n : ℕ) (rs : List (Implication ℕ)) (o : Object) : Type 0 where
  pub yes_marks : Sub o.yes_marks (full n)
  pub no_marks : Sub o.no_marks (full n)
  pub over : All (Over words (full n)) rs
  pub agrees : contradicts rs o ≡ false

pub record Implied : Type 0 where
  -- had just if every completion has it
  pub had : (n : ℕ) (rs : List (Implication ℕ)) (o : Object) → Consistent n rs o
      → (i : ℕ) → In i (has rs o) ↔ ((c : Object) → Completion n rs o c → In i c.yes_marks)
  -- lacked just if none does
  pub lacked : (n : ℕ) (rs : List (Implication ℕ)) (o : Object) → n ≤ word_attributes → Consistent n rs o
      → (i : ℕ) → i < n → In i (lacks rs o) ↔ ((c : Object) → Completion n rs o c → In i c.yes_marks → ⊥)
  -- complete rows
  pub complete_has : (n : ℕ) (rs : List (Implication ℕ)) (o : Object) → All (Over words (full n)) rs → Complete n o → contradicts rs o ≡ false
      → has rs o ≡ o.yes_marks
  pub complete_lacks : (n : ℕ) (rs : List (Implication ℕ)) (o : Object) → n ≤ word_attributes → All (Over words (full n)) rs → Complete n o
      → contradicts rs o ≡ false → lacks rs o ≡ o.no_marks
  -- a row that contradicts; to contradict is to have and to lack one attribute, so that 6 and 11 say the same of implied marks
  pub contradicting : (rs : List (Implication ℕ)) (o : Object) → o.no_marks < 2 ^ word_attributes → contradicts rs o ≡ meets (has rs o) (lacks rs o)
  pub all_lacked : (rs : List (Implication ℕ)) (o : Object) → contradicts rs o ≡ true → lacks rs o ≡ full word_attributes
