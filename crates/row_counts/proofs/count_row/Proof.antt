-- A row without the premise is not counted; one with it is counted for each attribute that it has.
use Rattle.attribute_set.specs.Sets.{inside}
use borrow.Author.Rules.{rules}
use borrow.Author.Tests.{eq-eqb, ne_eqb}
use Rattle.nearly_always.proofs.Nearly.Counting.Laws.{counts-has, counts-lacks}
use Rattle.row_counts.proofs.count_row.Statement.{statement}
use Rattle.row_counts.proofs.count_row.Tie as tie

returns : tie.Need-returns-then-premise-yes
unfolding inside
returns c = counts-lacks _ _ _ _ _ (ne_eqb _ _ c.if-premise-yes.true)

returns-2 : tie.Need-returns
unfolding inside
returns-2 c = counts-has _ _ _ _ _ _ (eq-eqb _ _ c.if-premise-yes.false) c.count_attributes.ensures

pub count_row_spec : {M : Type 1} → statement M
count_row_spec = tie.close (tie.spec
    returns
    (λ c κs. search rules)
    (λ c. search rules)
    (λ c. search rules)
    returns-2)
