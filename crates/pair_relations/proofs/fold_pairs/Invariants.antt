-- The pairs before the index make what is made so far of the start.
use Rattle.std.proofs.Common.{◌^◌, ◌<◌}
use Rattle.word_pairs.specs.Walks.{Makes}
use Rattle.pair_relations.proofs.fold_pairs.Given as goal

abbrev pub invariant-loop-pair : goal.invariant-loop-pair
invariant-loop-pair g l = (l.made < 2 ^ 64) × Makes (g.T.RelatedChange.may_make l.by) l.words l.pair-index l.fn.start l.made
