-- The mark of the attribute at the counter is written; those after it are still to write.
use Rattle.std.proofs.Common.{rules, ◌≡◌, sym, ap, ◌∙◌, [], ◌∷◌, ℕ, suc, ◌+◌, ◌-◌, ◌/◌, ◌%◌, ◌≤◌, ◌<◌, arith}
use Rattle.text.specs.Text.{mark_text, set_text}
use Rattle.text.specs.Page.{page, text}
use Rattle.text.proofs.Page.Laws.{text-step, text-end}
use Rattle.text.proofs.put_set.Goals as goal

-- the mark of the attribute at i, then those after it
marks-at : (n i w : ℕ) → i < n → set_text (n - i) w ≡ mark_text (w % 2) ∷ set_text (n - (i + 1)) (w / 2)
unfolding set_text
marks-at n i w h =
    let e : n - i ≡ suc (n - (i + 1)) = omega arith in
    rw e

-- no mark is left
marks-end : (n i w : ℕ) → n ≤ i → set_text (n - i) w ≡ []
unfolding set_text
marks-end n i w h =
    let e : n - i ≡ 0 = omega arith in
    rw e

pub loop-preserved : goal.loop-preserved
loop-preserved c =
    let l = c.loop in
    let a = c.args in
    let p = page l.out l.to in
    let m = c.mark_of.ensures in
    text-step p (mark_text (l.left % 2)) (set_text (a.n - (l.counter + 1)) (l.left / 2))
    (c.put_byte-to.ensures ∙ ap (λ (b : ℕ). text p (b ∷ [])) m)
    ∙ ap (text p) (sym (marks-at a.n l.counter l.left (search rules))) ∙ l.invariant

pub returns : goal.returns
returns c =
    let l = c.loop in
    text-end (page l.out l.to) _ (marks-end c.args.n l.counter l.left (search rules)) ∙ l.invariant
