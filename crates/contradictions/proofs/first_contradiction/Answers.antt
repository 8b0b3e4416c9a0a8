-- The search finds the first row, and what the slice has not whole contradicts nothing.
use Rattle.implication.specs.Closure.{in_force_with}
use Rattle.context.specs.Objects.{object, contradicts}
use Rattle.contradictions.proofs.Contradictions.Laws.{blank-idle}
use Rattle.word_pairs.proofs.Lowest.{first-lowest}
use Rattle.contradictions.proofs.first_contradiction.Goals as goal

pub returns : goal.returns
returns c =
    let a = c.args in
    let rs = in_force_with a.background.now a.list.now a.rules a.premise a.conclusion in
    first-lowest (contradicts rs) object a.rows.now a.count _ c.type_inv.rows
    (λ y n h k b e. e) _ c.first_that.ensures (blank-idle rs)
