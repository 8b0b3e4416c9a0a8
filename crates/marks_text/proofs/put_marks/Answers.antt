-- The mark of the attribute at the counter is written; those after it are still to write.
use Rattle.std.proofs.Common.{rules, ◌≡◌, sym, ap, ◌∙◌, [], ◌∷◌, ℕ, suc, ◌+◌, ◌-◌, ◌/◌, ◌%◌, ◌≤◌, ◌<◌, arith}
use Rattle.text.specs.Page.{page, text}
use Rattle.text.proofs.Page.Laws.{text-step, text-end}
use Rattle.marks_text.specs.Marks.{mark_of, marks_text}
use Rattle.marks_text.proofs.put_marks.Goals as goal

-- the mark of the attribute at i, then those after it
marks-at : (n i y m : ℕ) → i < n → marks_text (n - i) y m ≡ mark_of (y % 2) (m % 2) ∷ marks_text (n - (i + 1)) (y / 2) (m / 2)
unfolding marks_text
marks-at n i y m h =
    let e : n - i ≡ suc (n - (i + 1)) = omega arith in
    rw e

-- no mark is left
marks-end : (n i y m : ℕ) → n ≤ i → marks_text (n - i) y m ≡ []
unfolding marks_text
marks-end n i y m h =
    let e : n - i ≡ 0 = omega arith in
    rw e

pub loop-preserved : goal.loop-preserved
loop-preserved c =
    let l = c.loop in
    let a = c.args in
    let p = page l.out l.to in
    let m = c.mark_of.ensures in
    text-step p (mark_of (l.left_yes % 2) (l.left_no % 2)) (marks_text (a.n - (l.counter + 1)) (l.left_yes / 2) (l.left_no / 2))
    (c.put_byte-to.ensures ∙ ap (λ (b : ℕ). text p (b ∷ [])) m)
    ∙ ap (text p) (sym (marks-at a.n l.counter l.left_yes l.left_no (search rules))) ∙ l.invariant

pub returns : goal.returns
returns c =
    let l = c.loop in
    text-end (page l.out l.to) _ (marks-end c.args.n l.counter l.left_yes l.left_no (search rules)) ∙ l.invariant
