-- The test was made of the words of the pair at the place, and the pairs before it failed.
use Rattle.std.proofs.Common.{arith, true, false, below_more, subst₂}
use Rattle.word_pairs.proofs.Chunks.{length_taken, first_word, second_word}
use Rattle.pair_relations.proofs.first_that.Goals as goal

pub returns-then-test : goal.returns-then-test
returns-then-test g c =
    let whole = c.as_chunks.ensures.front in
    let l = length_taken _ _ whole c.min.result in
    record {
      most = omega (arith, l);
      before = λ k h i. c.loop-place.invariant k (omega arith);
      at = λ h. (
        omega (arith, l),
        subst₂ (λ x y. g.T.RelatedTest.may_give c.args.by.now x y true)
            (first_word _ _ whole c.min.result c.loop-place.place c.loop-place-test.true)
            (second_word _ _ whole c.min.result c.loop-place.place c.loop-place-test.true)
            c.if-test.ensures,
      );
    }

pub loop-place-preserved : goal.loop-place-preserved
loop-place-preserved g c =
    let whole = c.as_chunks.ensures.front in
    below_more _ _ c.loop-place.invariant
    (subst₂ (λ x y. g.T.RelatedTest.may_give c.args.by.now x y false)
    (first_word _ _ whole c.min.result c.loop-place.place c.loop-place-test.true)
    (second_word _ _ whole c.min.result c.loop-place.place c.loop-place-test.true)
    c.if-test.ensures)

pub returns : goal.returns
returns g c =
    let l = length_taken _ _ c.as_chunks.ensures.front c.min.result in
    record {
      most = omega arith;
      before = λ k h i. c.loop-place.invariant k (omega (arith, l, c.loop-place-test.false));
      at = λ h. absurd (omega arith);
    }
