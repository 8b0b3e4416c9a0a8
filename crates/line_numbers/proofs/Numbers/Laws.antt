-- Computed cases (`cases`, `cases-returned`). From where line i begins up to where the next one begins the number is i + 1
-- (`number-inside`, `number-start`), and from the end of the file on it is one more than the file has lines (`number_past`). The lines
-- along an index, for the loop.
use Rattle.std.specs.Prelude.{◌≡◌, Bool, List, [], ◌∷◌, length, drop, leb}
use Rattle.std.proofs.Math.Path.{refl, ap}
use Rattle.std.proofs.Common.{sym, ◌∙◌}
use Rattle.std.proofs.Math.Bool.{true, false, and-false}
use Prim.Native.Nat.{ℕ, zero, suc, ◌-◌, ◌≤◌, ◌<◌}
use native.Mathlib.Omega.{arith}
use Rattle.std.proofs.Math.Dec.{ltb}
use borrow.Author.Tests.{ltb-true, ltb-false, lt-ltb, le-ltb, leb-true, leb-false, le-leb, lt-leb}
use Rattle.table_lines.specs.Lines.{line_of, after, skipped}
use Rattle.table_lines.proofs.Lines.Laws.{after-inside, after-moves, after-past, skipped-suc}
use Rattle.table_lines.specs.Pieces.{lines_of}
use Rattle.table_lines.proofs.Pieces.Laws.{lines_at, lines_end, start-there, start-end}
use Rattle.line_numbers.specs.Numbers.{ended_before, number_of_line}

-- computed: `B`, line feed, `t`, line feed, `3`: the first byte is in line 1, a line feed still in its line, what stands behind it in the
-- next; the end of the file is in the line that is missing, whether the last line has an end or not
cases : (number_of_line (66 ∷ 10 ∷ 116 ∷ 10 ∷ 51 ∷ []) 0 ≡ 1)
    × (number_of_line (66 ∷ 10 ∷ 116 ∷ 10 ∷ 51 ∷ []) 1 ≡ 1)
    × (number_of_line (66 ∷ 10 ∷ 116 ∷ 10 ∷ 51 ∷ []) 4 ≡ 3)
    × (number_of_line (66 ∷ 10 ∷ 116 ∷ 10 ∷ 51 ∷ []) 5 ≡ 4)
    × (number_of_line (66 ∷ 10 ∷ 116 ∷ 10 ∷ []) 4 ≡ 3)
    × (number_of_line [] 0 ≡ 1)
unfolding ended_before line_of
cases = (refl, refl, refl, refl, refl, refl)

-- `B`, carriage return, line feed, `t`, carriage return, `3`, carriage return: a carriage return and a line feed are one end, and stand in
-- their line both
cases-returned : (number_of_line (66 ∷ 13 ∷ 10 ∷ 116 ∷ 13 ∷ 51 ∷ 13 ∷ []) 2 ≡ 1)
    × (number_of_line (66 ∷ 13 ∷ 10 ∷ 116 ∷ 13 ∷ 51 ∷ 13 ∷ []) 3 ≡ 2)
    × (number_of_line (66 ∷ 13 ∷ 10 ∷ 116 ∷ 13 ∷ 51 ∷ 13 ∷ []) 5 ≡ 3)
    × (number_of_line (66 ∷ 13 ∷ 10 ∷ 116 ∷ 13 ∷ 51 ∷ 13 ∷ []) 7 ≡ 4)
unfolding ended_before line_of
cases-returned = (refl, refl, refl, refl)

module _ (file : List ℕ) (place : ℕ) where
  -- no line is left; the line ends behind the place; it does not
  pub ended-past : (k at : ℕ) → length file ≤ at → ended_before k file place at ≡ 0
  unfolding ended_before
  ended-past zero at h = refl
  ended-past (suc k) at h = rw (ended_before, le-ltb at (length file) h)

  pub ended_here : (k at : ℕ) → place < after file at → ended_before k file place at ≡ 0
  unfolding ended_before
  ended_here zero at h = refl
  ended_here (suc k) at h = rw (ended_before, lt-leb (after file at) place h, and-false (ltb at (length file)))

  ended-on : (k at : ℕ) → at < length file → after file at ≤ place
      → ended_before (suc k) file place at ≡ suc (ended_before k file place (after file at))
  unfolding ended_before
  ended-on k at h i = rw (ended_before, lt-ltb at (length file) h, le-leb (after file at) place i)

  -- as many as the bytes that are left are enough
  ended-enough : (k n at : ℕ) → length file - at ≤ k → length file - at ≤ n → ended_before k file place at ≡ ended_before n file place at
  ended-enough zero n at h i = ended-past zero at (omega arith) ∙ sym (ended-past n at (omega arith))
  ended-enough (suc k) zero at h i = ended-past (suc k) at (omega arith) ∙ sym (ended-past zero at (omega arith))
  ended-enough (suc k) (suc n) at h i =
      go (ltb at (length file)) (leb (after file at) place) refl refl λ l.
      let m : at < after file at = after-moves file at l in
      ended-enough k n (after file at) (omega arith) (omega arith)
    where
      go : (t u : Bool) → ltb at (length file) ≡ t → leb (after file at) place ≡ u
          → (at < length file → ended_before k file place (after file at) ≡ ended_before n file place (after file at))
          → ended_before (suc k) file place at ≡ ended_before (suc n) file place at
      go true true e f on =
          let l = ltb-true _ _ e in
          let p = leb-true _ _ f in
          ended-on k at l p ∙ ap suc (on l) ∙ sym (ended-on n at l p)
      go true false e f on =
          let p = leb-false _ _ f in
          ended_here (suc k) at p ∙ sym (ended_here (suc n) at p)
      go false u e f on =
          let l = ltb-false _ _ e in
          ended-past (suc k) at l ∙ sym (ended-past (suc n) at l)

  -- with enough for the whole file
  pub ended-next : (at : ℕ) → at < length file → after file at ≤ place
      → ended_before (length file) file place at ≡ suc (ended_before (length file) file place (after file at))
  ended-next at h i =
      let m : at < after file at = after-moves file at h in
      ended-enough (length file) (suc (length file)) at (omega arith) (omega arith) ∙ ended-on (length file) at h i

  -- ---- what the number is

  on-or-before : (i at : ℕ) → at ≤ skipped i file at
  unfolding skipped
  on-or-before zero at = omega arith
  on-or-before (suc i) at = omega (arith, on-or-before i (after file at))

  stays : (i at : ℕ) → length file ≤ at → skipped i file at ≡ at
  unfolding skipped
  stays zero at h = refl
  stays (suc i) at h = ap (skipped i file) (after-past file at h) ∙ stays i at h

  inside-from : (i at : ℕ) → skipped i file at ≤ place → place < skipped (suc i) file at → ended_before (length file) file place at ≡ i
  unfolding skipped
  inside-from zero at h l = ended_here (length file) at l
  inside-from (suc i) at h l = go (ltb at (length file)) refl (inside-from i (after file at) h l)
    where
      go : (t : Bool) → ltb at (length file) ≡ t → ended_before (length file) file place (after file at) ≡ i
          → ended_before (length file) file place at ≡ suc i
      go true e on = ended-next at (ltb-true _ _ e) (omega (arith, on-or-before i (after file at))) ∙ ap suc on
      go false e on =
          let p = ltb-false at (length file) e in
          absurd (omega (arith, stays (suc i) at p, stays (suc (suc i)) at p))

  pub number-inside : (i : ℕ) → skipped i file 0 ≤ place → place < skipped (suc i) file 0 → number_of_line file place ≡ suc i
  number-inside i h l = ap suc (inside-from i 0 h l)

  past-from : (k at : ℕ) → length file - at ≤ k → length file ≤ place → ended_before (length file) file place at ≡ length (lines_of (drop at file))
  past-from zero at h p = ended-past (length file) at (omega arith) ∙ sym (ap length (lines_end file at (omega arith)))
  past-from (suc k) at h p =
      go (ltb at (length file)) refl λ l.
      let m : at < after file at = after-moves file at l in
      past-from k (after file at) (omega arith) p
    where
      go : (t : Bool) → ltb at (length file) ≡ t
          → (at < length file → ended_before (length file) file place (after file at) ≡ length (lines_of (drop (after file at) file)))
          → ended_before (length file) file place at ≡ length (lines_of (drop at file))
      go true e on =
          let l = ltb-true at (length file) e in
          ended-next at l (omega (arith, after-inside file at (omega arith))) ∙ ap suc (on l) ∙ sym (ap length (lines_at file at l))
      go false e on = ended-past (length file) at (ltb-false _ _ e) ∙ sym (ap length (lines_end file at (ltb-false _ _ e)))

  pub number_past : length file ≤ place → number_of_line file place ≡ suc (length (lines_of file))
  number_past p = ap suc (past-from (length file) 0 (omega arith) p)

-- the line that begins after i others has the number i + 1
pub number-start : (file : List ℕ) (i : ℕ) → i ≤ length (lines_of file) → number_of_line file (skipped i file 0) ≡ suc i
number-start file i h = go (ltb i (length (lines_of file))) refl
  where
    go : (t : Bool) → ltb i (length (lines_of file)) ≡ t → number_of_line file (skipped i file 0) ≡ suc i
    go true t =
        let m = after-moves file _ (start-there file i (ltb-true _ _ t)) in
        number-inside file _ i (omega arith) (omega (arith, skipped-suc i file 0))
    go false t =
        let l = ltb-false i (length (lines_of file)) t in
        let k : length (lines_of file) ≡ i = omega arith in
        number_past file _ (omega (arith, start-end file i l)) ∙ ap suc k
