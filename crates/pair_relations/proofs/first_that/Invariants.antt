-- The test fails at each pair before the place.
use Rattle.std.proofs.Common.{ℕ, ◌+◌, ◌*◌, ◌<◌, false, get_or}
use Rattle.pair_relations.proofs.first_that.Given as goal

abbrev pub invariant-loop-place : goal.invariant-loop-place
invariant-loop-place g l = (k : ℕ) → k < l.place → g.T.RelatedTest.may_give l.by (get_or l.words (k * 2) 0) (get_or l.words (k * 2 + 1) 0) false
