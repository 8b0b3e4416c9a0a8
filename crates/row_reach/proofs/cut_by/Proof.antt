-- What the object refutes of x is taken away.
use mathlib.Core.Path.{◌≡◌, sym, ap, ◌∙◌}
use borrow.Author.Rules.{rules}
use Rattle.attribute_set.specs.Sets.{without}
use Rattle.implication.specs.Closure.{implication, in_force}
use Rattle.context.specs.Objects.{object}
use Rattle.context.specs.Parts.{refuted_part}
use Rattle.reach.proofs.Reach.Laws.{cut-part}
use Rattle.row_reach.proofs.cut_by.Statement.{statement}
use Rattle.row_reach.proofs.cut_by.Tie as tie

returns : tie.Need-returns
returns c =
    let a = c.args in
    let rs = in_force a.background.now a.list.now a.rules in
    let o = object a.yes a.no in
    let e : c.refuted_part.result ≡ refuted_part rs o (implication a.set a.x) = c.refuted_part.ensures in
    c.difference.ensures ∙ ap (without a.x) e ∙ sym (cut-part rs a.set o a.x)

pub cut_by_spec : {M : Type 1} → statement M
cut_by_spec = tie.close (tie.spec (λ c κs. search rules) (λ c κs. search rules) returns)
