-- The tests are those of the definition.
use borrow.Author.Tests.{eq-eqb, ne_eqb}
use Rattle.attribute_set.specs.Sets.{inside}
use Rattle.machine.specs.Checks.{strange}
use Rattle.outside_check.proofs.strange_pair.Goals as goal

pub returns-then-a-m : goal.returns-then-a-m
unfolding strange inside
returns-then-a-m c = rw (ne_eqb _ _ c.if-a-m.true)

pub returns-else-a-m : goal.returns-else-a-m
unfolding strange inside
returns-else-a-m c = rw (eq-eqb _ _ c.if-a-m.false)
