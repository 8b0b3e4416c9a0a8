-- The products fit a word; where the count exceeds, the attribute is raised above the set.
use mathlib.Core.Path.{◌∙◌}
use native.Mathlib.Omega.{arith}
use Rattle.nearly_always.proofs.Nearly.Counting.Laws.{joined-raised, joined-kept, product-fits}
use borrow.Author.Rules.{rules}
use Rattle.row_counts.proofs.joined.Statement.{statement}
use Rattle.row_counts.proofs.joined.Tie as tie

mul-if1 : tie.Need-overflow_mul-percent
mul-if1 c = let a = c.args in record { fits = product-fits a.percent a.total a.counted a.p a.set c.requires.4 c.requires.3 }

mul-if1-2 : tie.Need-overflow_mul-counted
mul-if1-2 c = record { fits = omega (arith, c.requires.2) }

returns : tie.Need-returns-then-percent-total
returns c =
    c.raised.ensures ∙ joined-raised _ _ _ _ _ c.if-percent-total.true c.requires.0 c.requires.1

returns-2 : tie.Need-returns
returns-2 c = joined-kept _ _ _ _ _ c.if-percent-total.false

pub joined_spec : {M : Type 1} → statement M
joined_spec = tie.close (tie.spec
    mul-if1
    mul-if1-2
    (λ c κs. search rules)
    returns
    returns-2)
