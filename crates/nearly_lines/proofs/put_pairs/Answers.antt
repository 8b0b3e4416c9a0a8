-- The line of the pair with the highest attribute left is written; those of the lower ones are still to write.
use Rattle.std.proofs.Common.{◌≡◌, refl, sym, ap, ◌∙◌, [], ◌∷◌, ℕ, suc, ◌+◌, ◌-◌, ◌^◌, ◌%◌, ◌≤◌, ◌<◌, arith}
use Rattle.attribute_set.specs.Lectic.{raise}
use Rattle.context.specs.Objects.{objects_of}
use Rattle.short_premises.specs.Premises.{pairs_with}
use Rattle.short_premises.proofs.Premises.Laws.{pairs-step, pairs_end}
use Rattle.text.specs.Page.{page, text}
use Rattle.text.proofs.Page.Laws.{text-on, text-end}
use Rattle.nearly_lines.specs.Lines.{nearly_lines}
use Rattle.nearly_lines.proofs.Lines.Laws.{lines-first, lines_none, one-raised, pair-raised}
use Rattle.nearly_lines.proofs.put_pairs.Goals as goal

-- the pair with the highest attribute comes first, as the code makes it
pair-first : (i j single set : ℕ) → i + 1 < j → j ≤ 64 → single ≡ raise 0 i % 2 ^ 64 → set ≡ raise single (j - 1) % 2 ^ 64
    → pairs_with i j ≡ set ∷ pairs_with i (j - 1)
pair-first i j single set h l e f =
    let k = j - 1 in
    let last : j ≡ suc k = omega arith in
    let alone = e ∙ one-raised i (omega arith) in
    let both = f ∙ ap (λ (s : ℕ). raise s k % 2 ^ 64) alone ∙ pair-raised i k (omega arith) (omega arith) in
    ap (pairs_with i) last ∙ pairs-step i k (omega arith) ∙ ap (λ (s : ℕ). s ∷ pairs_with i k) (sym both)

pub loop-j-preserved : goal.loop-j-preserved
loop-j-preserved c =
    let l = c.loop-j in
    let a = c.args in
    let os = objects_of a.used a.rows.now in
    let lines = nearly_lines a.n a.percent os in
    let set = c.raised.result in
    let rest = pairs_with a.i (l.j - 1) in
    let p = page l.out l.to in
    let first = pair-first a.i l.j c.raised-single.result set (omega arith) (omega arith) c.raised-single.ensures c.raised.ensures in
    text-on p (lines (set ∷ [])) (lines rest) c.put_line-to.ensures refl
    ∙ ap (text p) (lines-first a.n a.percent os set rest ∙ ap lines (sym first)) ∙ l.invariant

pub returns : goal.returns
returns c =
    let l = c.loop-j in
    let a = c.args in
    let none = pairs_end a.i l.j (omega arith) in
    text-end (page l.out l.to) _ (lines_none a.n a.percent (objects_of a.used a.rows.now) _ none) ∙ l.invariant
