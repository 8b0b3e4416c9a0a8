-- M cut by the whole objects of the slice; what is counted past them cuts nothing.
use Rattle.std.proofs.Common.{refl, sym, ap, ◌∙◌, min}
use Rattle.context.specs.Objects.{object, objects_of, whole}
use Rattle.written_marks.specs.Written.{cut_written, narrow_written, reach_written}
use Rattle.written_marks.proofs.Written.Laws.{reach-whole}
use Rattle.word_pairs.proofs.Folds.{fold-made}
use Rattle.written_reach.proofs.reach_of.Goals as goal

pub returns : goal.returns
unfolding reach_written narrow_written
returns c =
    let a = c.args in
    let made = fold-made (cut_written a.set) (narrow_written a.set) (λ x. refl) (λ o os x. refl) object a.rows.now _ c.type_inv.rows
    (λ y n x h k l z e. e) a.count _ _ c.fold_pairs.ensures in
    made ∙ ap (narrow_written a.set (objects_of (whole a.count a.rows.now) a.rows.now)) c.full_set.ensures ∙ sym (reach-whole (min a.n 64) a.count a.rows.now a.set)
