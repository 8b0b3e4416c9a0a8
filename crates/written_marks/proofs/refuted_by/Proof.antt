-- The two tests are those of the definition, and the second is made only where the object has the premise.
use mathlib.Core.Path.{sym, ◌∙◌}
use borrow.Author.Tests.{ne_eqb}
use Rattle.attribute_set.specs.Sets.{meets}
use Rattle.attribute_set.proofs.Sets.Laws.{and→sub, sub→and}
use Rattle.implication.specs.Closure.{implication}
use Rattle.context.specs.Objects.{object}
use Rattle.context.proofs.Objects.Laws.{written-taken, written-left}
use Rattle.written_marks.proofs.refuted_by.Statement.{statement}
use Rattle.written_marks.proofs.refuted_by.Tie as tie

returns : tie.Need-returns-then-premise-yes
unfolding meets
returns c =
    let a = c.args in
    sym (written-taken (object a.yes a.no) (implication a.premise a.conclusion) (and→sub _ _ c.if-premise-yes.true))

returns-2 : tie.Need-returns-else-premise-yes
returns-2 c =
    let a = c.args in
    ne_eqb _ _ c.if-premise-yes.false
    ∙ sym (written-left (object a.yes a.no) (implication a.premise a.conclusion) (λ h. c.if-premise-yes.false (sub→and h)))

pub refuted_by_spec : {M : Type 1} → statement M
refuted_by_spec = tie.close (tie.spec returns returns-2)
