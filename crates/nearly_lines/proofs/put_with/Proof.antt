-- The line of the attribute alone, then those of its pairs.
use mathlib.Core.Path.{ap, ◌∙◌}
use mathlib.Core.List.{[], ◌∷◌}
use Prim.Native.Nat.{ℕ}
use native.Mathlib.Omega.{arith}
use borrow.Author.Rules.{rules}
use Rattle.context.specs.Objects.{objects_of}
use Rattle.short_premises.specs.Premises.{pairs_with}
use Rattle.text.specs.Page.{page, text}
use Rattle.text.proofs.Page.Laws.{text-on}
use Rattle.nearly_lines.specs.Lines.{nearly_lines}
use Rattle.nearly_lines.proofs.Lines.Laws.{lines-first, one-raised}
use Rattle.nearly_lines.proofs.put_with.Statement.{statement}
use Rattle.nearly_lines.proofs.put_with.Tie as tie

returns : tie.Need-returns
returns c =
    let a = c.args in
    let os = objects_of a.used a.rows.now in
    let lines = nearly_lines a.n a.percent os in
    let set = c.raised.result in
    let pairs = pairs_with a.i a.n in
    let p = page a.out.now a.at in
    text-on p (lines (set ∷ [])) (lines pairs) c.put_line-alone.ensures c.put_pairs.ensures
    ∙ ap (text p) (lines-first a.n a.percent os set pairs)
    ∙ ap (λ (s : ℕ). text p (lines (s ∷ pairs))) (c.raised.ensures ∙ one-raised a.i (omega arith))

pub put_with_spec : {M : Type 1} → statement M
put_with_spec =
    tie.close
    (tie.spec
    (λ c κs. search rules)
    (λ c κs. search rules)
    (λ c κs. search rules)
    (λ c. search rules)
    returns)
