-- M cut by the whole objects of the slice; what is counted past them cuts nothing.
use Rattle.std.proofs.Common.{refl, sym, ap, ◌∙◌, min}
use Rattle.implication.specs.Closure.{in_force}
use Rattle.context.specs.Objects.{object, objects_of, whole}
use Rattle.reach.specs.Reach.{cut, narrow, reach}
use Rattle.reach.proofs.Reach.Laws.{reach-whole}
use Rattle.word_pairs.proofs.Folds.{fold-made}
use Rattle.row_reach.proofs.reach_of.Goals as goal

pub returns : goal.returns
unfolding reach narrow
returns c =
    let a = c.args in
    let rs = in_force a.background.now a.list.now a.rules in
    let made = fold-made (cut rs a.set) (narrow rs a.set) (λ x. refl) (λ o os x. refl) object a.rows.now _ c.type_inv.rows
    (λ y n x h k l z e. e) a.count _ _ c.fold_pairs.ensures in
    made ∙ ap (narrow rs a.set (objects_of (whole a.count a.rows.now) a.rows.now)) c.full_set.ensures ∙ sym (reach-whole rs (min a.n 64) a.count a.rows.now a.set)
