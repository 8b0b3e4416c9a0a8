-- The search finds the first object, and what the slice has not whole refutes nothing.
use Rattle.implication.specs.Closure.{implication, in_force}
use Rattle.context.specs.Objects.{object, refutes, first_refuting}
use Rattle.context.proofs.Objects.Laws.{past-spares}
use Rattle.word_pairs.proofs.Lowest.{first-lowest}
use Rattle.refuting_rows.proofs.first_refuting.Goals as goal

pub returns : goal.returns
unfolding first_refuting
returns c =
    let a = c.args in
    let rs = in_force a.background.now a.list.now a.rules in
    let r = implication a.premise a.conclusion in
    first-lowest (λ o. refutes rs o r) object a.rows.now a.count _ c.type_inv.rows
    (λ y n h k b e. e) _ c.first_that.ensures (past-spares rs r)
