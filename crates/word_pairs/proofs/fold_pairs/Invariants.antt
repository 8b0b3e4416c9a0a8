-- The pairs before the index make what is made so far of the start.
use Rattle.std.proofs.Common.{◌≡◌, ◌^◌, ◌<◌}
use Rattle.word_pairs.specs.Walks.{Makes}
use Rattle.word_pairs.proofs.fold_pairs.Given as goal

abbrev pub invariant-loop-pair : goal.invariant-loop-pair
invariant-loop-pair g l =
    (l.made < 2 ^ 64) × Makes (λ a b x y. y ≡ g.T.PairChange.changed l.by a b x) l.words l.pair-index l.fn.start l.made
