-- The search finds the first object, and what the slice has not whole refutes nothing.
use Rattle.implication.specs.Closure.{implication}
use Rattle.context.specs.Objects.{object, refutes_written, first_written}
use Rattle.context.proofs.Objects.Laws.{past-written}
use Rattle.word_pairs.proofs.Lowest.{first-lowest}
use Rattle.written_marks.proofs.first_refuting.Goals as goal

pub returns : goal.returns
unfolding first_written
returns c =
    let a = c.args in
    let r = implication a.premise a.conclusion in
    first-lowest (λ o. refutes_written o r) object a.rows.now a.count _ c.type_inv.rows
    (λ y n h k b e. e) _ c.first_that.ensures (past-written r)
