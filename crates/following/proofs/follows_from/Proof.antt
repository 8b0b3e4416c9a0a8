-- Whether an implication follows: the code is the definition, on the closure that the call gives.
use mathlib.Core.Path.{ap}
use borrow.Author.Rules.{rules}
use Rattle.attribute_set.specs.Sets.{inside}
use Rattle.implication.specs.Closure.{follows}
use Rattle.following.proofs.follows_from.Statement.{statement}
use Rattle.following.proofs.follows_from.Tie as tie

returns : tie.Need-returns
unfolding follows inside
returns c = ap (inside c.args.conclusion) c.closure_of.ensures

pub follows_from_spec : {M : Type 1} → statement M
follows_from_spec = tie.close (tie.spec (λ c κs. search rules) returns)
