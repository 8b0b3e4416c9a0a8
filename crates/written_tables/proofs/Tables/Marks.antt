-- A line of marks, written and read again: for two words below 2 ^ n that share no attribute, the row of the line is the row of the words
-- (`marks-row`); the line passes as one of n marks (`marks_line`), and no byte of it is one of an end (`marks-no-end`).
use Rattle.std.specs.Prelude.{◌≡◌, refl, true, ℕ, zero, suc, ◌/◌, ◌%◌, ◌^◌, ◌<◌, length}
use Rattle.std.proofs.Common.{sym, ap₂, ◌∙◌, arith, eq-eqb}
use Rattle.theory.specs.Lists.{All}
use Rattle.attribute_set.specs.Sets.{Apart}
use Rattle.attribute_set.proofs.Sets.Laws.{digit-half}
use Rattle.context.specs.Objects.{object}
use Rattle.table_bytes.specs.Bytes.{is_yes, is_no, is_mark}
use Rattle.table_lines.specs.Lines.{NoEnd}
use Rattle.table_rows.specs.Rows.{bit_of, word_of, row_of}
use Rattle.table_kinds.specs.declared.Kind.TheVariants.{Marks}
use Rattle.line_faults.specs.Faults.{fault}
use Rattle.marks_text.specs.Marks.{mark_of, marks_text}
use Rattle.marks_text.proofs.Marks.Laws.{marks-length, marks-all}
use Rattle.written_tables.proofs.Tables.Counts.{all-everywhere}

-- sets that share no member, without their first attribute
apart-half : (y m : ℕ) → Apart y m → Apart (y / 2) (m / 2)
apart-half y m a = record { at = λ i p q. a.at (suc i) (sym (digit-half y i) ∙ p) (sym (digit-half m i) ∙ q) }

-- ---- the line

pub marks-no-end : (n y m : ℕ) → All NoEnd (marks_text n y m)
marks-no-end n y m = marks-all NoEnd (omega arith) (omega arith) (omega arith) n y m

pub marks_line : (n y m : ℕ) → fault (Marks n) (marks_text n y m) ≡ 0
unfolding fault
marks_line n y m =
    let each = marks-all (λ b. is_mark b ≡ true) refl refl refl n y m in
    rw (eq-eqb (length (marks_text n y m)) n (marks-length n y m), all-everywhere is_mark (marks_text n y m) each)

-- ---- its words

-- the bits of one mark
yes-bit : (d e : ℕ) → d < 2 → bit_of (is_yes (mark_of d e)) ≡ d
yes-bit zero zero h = refl
yes-bit zero (suc e) h = refl
yes-bit (suc d) e h = omega arith

no-bit : (d e : ℕ) → d < 2 → e < 2 → (d ≡ 1 → e ≡ 1 → ⊥) → bit_of (is_no (mark_of d e)) ≡ e
no-bit zero zero h k a = refl
no-bit zero (suc e) h k a = omega arith
no-bit (suc d) zero h k a = refl
no-bit (suc d) (suc e) h k a = absurd (a (omega arith) (omega arith))

yes-word : (n y m : ℕ) → y < 2 ^ n → word_of is_yes (marks_text n y m) ≡ y
unfolding word_of marks_text
yes-word zero y m h = omega arith
yes-word (suc n) y m h =
    omega (arith, yes-word n (y / 2) (m / 2) (omega arith), yes-bit (y % 2) (m % 2) (omega arith))

no_word : (n y m : ℕ) → m < 2 ^ n → Apart y m → word_of is_no (marks_text n y m) ≡ m
unfolding word_of marks_text
no_word zero y m h a = omega arith
no_word (suc n) y m h a =
    let b = no-bit (y % 2) (m % 2) (omega arith) (omega arith) (λ p q. a.at 0 (omega arith) (omega arith)) in
    omega (arith, no_word n (y / 2) (m / 2) (omega arith) (apart-half y m a))

pub marks-row : (n y m : ℕ) → y < 2 ^ n → m < 2 ^ n → Apart y m → row_of (marks_text n y m) ≡ object y m
marks-row n y m h k a = ap₂ object (yes-word n y m h) (no_word n y m k a)
