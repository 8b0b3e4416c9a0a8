-- A line of marks and lines that are none, computed (`marks`). What a line that passes has: the test holds (`unless-fine`), a count in
-- range (`count-fine`).
use Rattle.std.specs.Prelude.{◌≡◌, refl, Bool, true, false, ◌&&◌, List, [], ◌∷◌, ℕ, suc, ◌≤◌, leb}
use Rattle.std.proofs.Math.Bool.{and-eq-true_iff}
use Rattle.std.proofs.Common.{arith, leb-true}
use Rattle.line_bytes.specs.Everywhere.{everywhere}
use Rattle.table_counts.specs.Counts.{is_count, count_of}
use Rattle.line_tests.specs.Tests.{refuse_unless, count_fault, is_marks}

-- two marks; one too few; a space
marks : (is_marks 2 (88 ∷ 63 ∷ []) ≡ true) × (is_marks 2 (88 ∷ []) ≡ false) × (is_marks 2 (88 ∷ 32 ∷ []) ≡ false)
unfolding everywhere
marks = (refl, refl, refl)

pub unless-fine : (t : Bool) (number : ℕ) → refuse_unless t (suc number) ≡ 0 → t ≡ true
unless-fine true number e = refl
unless-fine false number e = absurd (omega arith)

-- a count line that is fine has a count in range
pub count-fine : (least most : ℕ) (bs : List ℕ) → count_fault least most bs ≡ 0 → (least ≤ count_of bs) × (count_of bs ≤ most)
count-fine least most bs e = go (is_count bs) e
  where
    go : (t : Bool) → ◌≡◌ {A = ℕ} (elim t [ true ↦ refuse_unless (leb least (count_of bs) && leb (count_of bs) most) 24 | false ↦ 23 ]) 0
        → (least ≤ count_of bs) × (count_of bs ≤ most)
    go true f =
        let u = (and-eq-true_iff (leb least (count_of bs)) (leb (count_of bs) most)).0 (unless-fine _ 23 f) in
        (leb-true _ _ u.0, leb-true _ _ u.1)
    go false f = absurd (omega arith)
