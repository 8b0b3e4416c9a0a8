-- The change was made with the words of the pair at the index, and the last index is the number of pairs.
use Rattle.std.proofs.Common.{◌≡◌, arith, refl, subst, subst₂, min, length, ◌/◌}
use Rattle.word_pairs.specs.Walks.{Makes}
use Rattle.word_pairs.proofs.Chunks.{length_taken, first_word, second_word}
use Rattle.word_pairs.proofs.Makes.{makes-next}
use Rattle.pair_relations.proofs.fold_pairs.Goals as goal

pub loop-pair-init : goal.loop-pair-init
unfolding Makes
loop-pair-init g c = (omega (arith, c.ranges.start.fits), refl)

pub loop-pair-preserved : goal.loop-pair-preserved
loop-pair-preserved g c =
    let whole = c.as_chunks.ensures.front in
    let l = c.loop-pair in (
      omega (arith, c.change-made.type_inv),
      makes-next (g.T.RelatedChange.may_make c.args.by.now) _ _ _ _ _ l.invariant.0 l.invariant.1
          (subst₂ (λ a b. g.T.RelatedChange.may_make c.args.by.now a b l.made c.change-made.result)
          (first_word _ _ whole c.min.result l.pair-index c.loop-pair-test.true)
          (second_word _ _ whole c.min.result l.pair-index c.loop-pair-test.true)
          c.change-made.ensures),
    )

pub returns : goal.returns
returns g c =
    let a = c.args in
    let l = length_taken _ _ c.as_chunks.ensures.front c.min.result in
    let e : c.loop-pair.pair-index ≡ min a.count (length a.words.now / 2) = omega (arith, l, c.as_chunks.ensures.front_len) in
    subst (λ n. Makes (g.T.RelatedChange.may_make a.by.now) a.words.now n a.start c.loop-pair.made) e c.loop-pair.invariant.1
