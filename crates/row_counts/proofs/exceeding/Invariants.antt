-- The set of the attributes so far is that of the definition's test, by the counts.
use Rattle.std.proofs.Common.{◌≡◌}
use Rattle.attribute_set.specs.Passing.{passing}
use Rattle.nearly_always.specs.Nearly.Counting.{exceeds_by}
use Rattle.row_counts.proofs.exceeding.Given as goal

abbrev pub invariant-loop-p : goal.invariant-loop-p
invariant-loop-p l = l.set ≡ passing (exceeds_by l.percent l.total l.counts) l.p
