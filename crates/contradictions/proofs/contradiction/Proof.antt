-- The closure of the yes marks is tested against the no marks, as in the definition.
use borrow.Author.Rules.{rules}
use Rattle.attribute_set.specs.Sets.{meets}
use Rattle.context.specs.Objects.{contradicts}
use Rattle.contradictions.proofs.contradiction.Statement.{statement}
use Rattle.contradictions.proofs.contradiction.Tie as tie

returns : tie.Need-returns
unfolding contradicts meets
returns c = rw c.closure_with.ensures

pub contradiction_spec : {M : Type 1} → statement M
contradiction_spec = tie.close (tie.spec (λ c κs. search rules) returns)
