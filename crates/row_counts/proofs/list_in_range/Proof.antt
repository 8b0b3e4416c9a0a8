-- One pass counts the rows, the counts decide, and the premise is taken away.
use mathlib.Core.Path.{ap, ◌∙◌}
use native.Mathlib.Omega.{arith}
use Rattle.attribute_set.specs.Sets.{without}
use Rattle.implication.proofs.Pairs.Laws.{length_pairs}
use Rattle.context.specs.Objects.{object, objects_of}
use Rattle.nearly_always.specs.Nearly.{nearly_always}
use Rattle.nearly_always.proofs.Nearly.Counting.Laws.{zero-counts, all_small, exceeds-counted}
use borrow.Author.Rules.{rules}
use Rattle.row_counts.proofs.list_in_range.Statement.{statement}
use Rattle.row_counts.proofs.list_in_range.Tie as tie

count-rows-requires : tie.Need-count_rows-total-requires
count-rows-requires c κs =
    let p = c.requires in
    (p.objects, omega (arith, p.places), p.attributes, zero-counts _ 64 p.attributes)

exceeding-requires : tie.Need-exceeding-set-requires
exceeding-requires c κs =
    let p = c.requires in
    let a = c.args in
    let s = all_small a.n (objects_of a.used a.rows.now) a.premise c.count_rows-total.result _ c.count_rows-total.ensures
    (omega (arith, length_pairs object a.used a.rows.now, p.objects)) in
    ((p.attributes, search rules, s.0), (s.1, p.percentage))

returns : tie.Need-returns
unfolding nearly_always
returns c =
    let a = c.args in
    let f = exceeds-counted a.n a.percent c.count_rows-total.result (objects_of a.used a.rows.now) a.premise _ c.count_rows-total.ensures in
    c.difference.ensures ∙ ap (λ s. without s a.premise) (c.exceeding-set.ensures ∙ f)

pub list_in_range_spec : {M : Type 1} → statement M
list_in_range_spec =
    tie.close
    (tie.spec
    (λ c. search rules)
    count-rows-requires
    (λ c. search rules)
    exceeding-requires
    (λ c κs. search rules)
    returns)
