-- The lines of the highest attribute left are written; those of the lower ones are still to write.
use Rattle.std.proofs.Common.{◌≡◌, refl, sym, ap, ◌∙◌, ◌∷◌, suc, ◌-◌, ◌^◌, arith}
use Rattle.context.specs.Objects.{objects_of}
use Rattle.short_premises.specs.Premises.{pairs_with, premises_below}
use Rattle.short_premises.proofs.Premises.Laws.{premises-step, premises-end}
use Rattle.text.specs.Page.{page, text}
use Rattle.text.proofs.Page.Laws.{text-on, text-end}
use Rattle.nearly_lines.specs.Lines.{nearly_lines}
use Rattle.nearly_lines.proofs.Lines.Laws.{lines-append, lines_none}
use Rattle.nearly_lines.proofs.put_each.Goals as goal

pub loop-i-preserved : goal.loop-i-preserved
loop-i-preserved c =
    let l = c.loop-i in
    let a = c.args in
    let os = objects_of a.used a.rows.now in
    let lines = nearly_lines a.n a.percent os in
    let k = l.i - 1 in
    let last : l.i ≡ suc k = omega arith in
    let here = 2 ^ k ∷ pairs_with k a.n in
    let rest = premises_below a.n k in
    let p = page l.out l.to in
    text-on p (lines here) (lines rest) c.put_with-to.ensures refl
    ∙ ap (text p) (lines-append a.n a.percent os here rest ∙ ap lines (sym (ap (premises_below a.n) last ∙ premises-step a.n k)))
    ∙ l.invariant

pub returns : goal.returns
returns c =
    let l = c.loop-i in
    let a = c.args in
    let zero : l.i ≡ 0 = omega arith in
    let none = ap (premises_below a.n) zero ∙ premises-end a.n in
    text-end (page l.out l.to) _ (lines_none a.n a.percent (objects_of a.used a.rows.now) _ none) ∙ l.invariant
