-- A line of marks has a byte for each attribute (`marks-length`), and each is one of the three marks (`marks-all`).
use Rattle.std.specs.Prelude.{◌≡◌, refl, [], ◌∷◌, length}
use Rattle.std.proofs.Common.{ap}
use Prim.Native.Nat.{ℕ, zero, suc, ◌/◌, ◌%◌}
use Rattle.theory.specs.Lists.{All}
use Rattle.theory.proofs.Lists.Laws.{all_nil, all_cons}
use Rattle.marks_text.specs.Marks.{mark_of, marks_text}

-- computed: yes, unknown, no, yes, attribute 0 first; no mark past the n attributes; and no attribute at all
cases : (marks_text 4 9 4 ≡ 88 ∷ 63 ∷ 46 ∷ 88 ∷ []) × (marks_text 2 9 4 ≡ 88 ∷ 63 ∷ []) × (marks_text 0 1 0 ≡ [])
unfolding marks_text
cases = (refl, refl, refl)

pub marks-length : (n y m : ℕ) → length (marks_text n y m) ≡ n
unfolding marks_text
marks-length zero y m = refl
marks-length (suc n) y m = ap suc (marks-length n (y / 2) (m / 2))

-- what holds of the three marks holds of each byte
module _ (P : ℕ → Type 0) (yes : P 88) (no : P 46) (unknown : P 63) where
  mark-one : (d e : ℕ) → P (mark_of d e)
  mark-one (suc d) e = yes
  mark-one zero (suc e) = no
  mark-one zero zero = unknown

  pub marks-all : (n y m : ℕ) → All P (marks_text n y m)
  unfolding marks_text
  marks-all zero y m = all_nil P
  marks-all (suc n) y m = all_cons (mark-one (y % 2) (m % 2)) (marks-all n (y / 2) (m / 2))
