-- What the closure came to when it was given up meets the no marks, and so does the closure; else it is the closure.
use borrow.Author.Rules.{rules}
use Rattle.context.specs.Objects.{object}
use Rattle.context.proofs.Parts.Laws.{until-met, until-whole}
use Rattle.refuted_parts.proofs.spared_with.Statement.{statement}
use Rattle.refuted_parts.proofs.spared_with.Tie as tie

returns : tie.Need-returns-then-found-no-ne0
returns c = let a = c.args in until-met _ (object a.yes a.no) a.attribute c.close_until-found.ensures c.if-found-no-ne0.true

returns-2 : tie.Need-returns
returns-2 c = let a = c.args in until-whole _ (object a.yes a.no) a.attribute c.close_until-found.ensures c.if-found-no-ne0.false

pub spared_with_spec : {M : Type 1} → statement M
spared_with_spec = tie.close (tie.spec (λ c κs. search rules) returns returns-2)
