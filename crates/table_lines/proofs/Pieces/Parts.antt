-- A part of bytes, from the beginning up to an offset: where it reaches to the line behind the first, it has the same first line
-- (`part-line`), and where it reaches to line k, the same first k lines (`part-lines`). Behind an offset a line begins where it does in the
-- whole (`skipped-part`), and k lines behind line m is line m + k (`skipped-add`).
use Rattle.std.specs.Prelude.{◌≡◌, refl, true, false, List, [], ◌∷◌, ℕ, zero, suc, ◌+◌, ◌-◌, ◌≤◌, ◌<◌, length, take, drop}
use Rattle.std.proofs.Common.{ap, ap₂, sym, ◌∙◌, arith, length-take, take-take, drop-drop}
use Rattle.std.proofs.lemmas.Bool.{false≢true}
use Rattle.std.proofs.Math.Nat.{sub-zero}
use Rattle.std.proofs.Math.Seq.{take-nil}
use Rattle.table_lines.specs.declared.Line.{Line}
use Rattle.table_lines.specs.Lines.{feeds, end_of, line, longer, line_of, after, skipped}
use Rattle.table_lines.proofs.Lines.Laws.{returned-fed, returned-alone, end-feed, end-return, end_none, end-cases, line-end, line_on, line-cases, size-inside, step-moves}
use Rattle.table_lines.specs.Pieces.{without_ends, lines_of}
use Rattle.table_lines.proofs.Pieces.Laws.{pieces-some}

-- ---- the first line of a part

feeds-part : (m : ℕ) (bs : List ℕ) → feeds bs ≡ true → 1 ≤ m → feeds (take m bs) ≡ true
feeds-part m [] f h = absurd (false≢true f)
feeds-part zero (b ∷ bs) f h = absurd (omega arith)
feeds-part (suc m) (b ∷ bs) f h = f

feeds-none : (m : ℕ) (bs : List ℕ) → feeds bs ≡ false → feeds (take m bs) ≡ false
feeds-none zero bs f = refl
feeds-none (suc m) [] f = refl
feeds-none (suc m) (b ∷ bs) f = f

end-part : (b : ℕ) (bs : List ℕ) (m : ℕ) → end_of (b ∷ bs) ≤ suc m → end_of (b ∷ take m bs) ≡ end_of (b ∷ bs)
end-part b bs m =
    let part = take m bs in
    end-cases b bs (λ k. k ≤ suc m → end_of (b ∷ part) ≡ k) (λ e h. end-feed b part e)
    (λ e f h. end-return b part e ∙ returned-fed part (feeds-part m bs f (omega arith)))
    (λ e f h. end-return b part e ∙ returned-alone part (feeds-none m bs f)) (λ n h. end_none b part n)

pub part-line : (m : ℕ) (bs : List ℕ) → (line_of bs).step ≤ m → line_of (take m bs) ≡ line_of bs
part-line m [] h = ap line_of (take-nil m)
part-line zero (b ∷ bs) h = absurd (omega (arith, step-moves b bs))
part-line (suc m) (b ∷ bs) h =
    line-cases b bs (λ l. l.step ≤ suc m → line_of (b ∷ take m bs) ≡ l)
    (λ n i. let e = end-part b bs m i in line-end (b ∷ take m bs) (λ z. n (sym e ∙ z)) ∙ ap (line 0) e)
    (λ e i. line_on b (take m bs) (end-part b bs m (omega arith) ∙ e) ∙ ap longer (part-line m bs (omega arith))) h

-- ---- the first lines of a part

pub skipped-part : (k : ℕ) (file : List ℕ) (at j : ℕ) → skipped k file (at + j) ≡ at + skipped k (drop at file) j
unfolding skipped
skipped-part zero file at j = refl
skipped-part (suc k) file at j =
    let e : after file (at + j) ≡ at + after (drop at file) j = rw drop-drop (omega arith) in
    ap (skipped k file) e ∙ skipped-part k file at (after (drop at file) j)

pub skipped-add : (m k : ℕ) (file : List ℕ) (at : ℕ) → skipped (m + k) file at ≡ skipped k file (skipped m file at)
unfolding skipped
skipped-add zero k file at =
    let e : 0 + k ≡ k = omega arith in
    rw e
skipped-add (suc m) k file at =
    let e : suc m + k ≡ suc (m + k) = omega arith in
    rw e (skipped-add m k file (after file at))

skipped-first : (k : ℕ) (bs : List ℕ) → skipped (suc k) bs 0 ≡ (line_of bs).step + skipped k (drop (line_of bs).step bs) 0
unfolding skipped
skipped-first k bs =
    let e : 0 + (line_of bs).step ≡ (line_of bs).step + 0 = omega arith in
    ap (skipped k bs) e ∙ skipped-part k bs (line_of bs).step 0

drop-part : (s m : ℕ) (bs : List ℕ) → drop s (take m bs) ≡ take (m - s) (drop s bs)
drop-part zero m bs = rw sub-zero
drop-part (suc s) zero bs =
    let e : 0 - suc s ≡ 0 = omega arith in
    rw e
drop-part (suc s) (suc m) [] = sym (take-nil (suc m - suc s))
drop-part (suc s) (suc m) (b ∷ bs) =
    let e : suc m - suc s ≡ m - s = omega arith in
    rw e (drop-part s m bs)

lines-first : (bs : List ℕ) → 0 < length bs → lines_of bs ≡ take (line_of bs).size bs ∷ lines_of (drop (line_of bs).step bs)
lines-first bs h = ap without_ends (pieces-some bs h)

pub part-lines : (k m : ℕ) (bs : List ℕ) → skipped k bs 0 ≤ m → take k (lines_of (take m bs)) ≡ take k (lines_of bs)
part-lines zero m bs h = refl
part-lines (suc k) m [] h = ap (λ t. take (suc k) (lines_of t)) (take-nil m)
part-lines (suc k) m (b ∷ bs) h =
    let file = b ∷ bs in
    let l = line_of file in
    let part = take m file in
    let e = skipped-first k file in
    let i : l.step ≤ m = omega arith in
    let first : lines_of part ≡ take l.size file ∷ lines_of (take (m - l.step) (drop l.step file)) =
    lines-first part (omega (arith, length-take m file, step-moves b bs))
    ∙ ap (λ (n : Line). take n.size part ∷ lines_of (drop n.step part)) (part-line m file i)
    ∙ ap₂ (λ x y. x ∷ lines_of y) (take-take l.size m file (omega (arith, size-inside file))) (drop-part l.step m file) in
    ap (take (suc k)) first
    ∙ ap (λ ls. take l.size file ∷ ls) (part-lines k (m - l.step) (drop l.step file) (omega arith))
    ∙ sym (ap (take (suc k)) (lines-first file (omega arith)))
