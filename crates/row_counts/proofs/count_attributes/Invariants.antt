-- Each turn adds the mark of one attribute.
use Rattle.std.proofs.Common.{take}
use Rattle.nearly_always.specs.Nearly.Counting.{Adding}
use Rattle.row_counts.proofs.count_attributes.Given as goal

abbrev pub invariant-loop-count : goal.invariant-loop-count
invariant-loop-count l = Adding l.yes l.count-index l.left (take l.n l.fn.counts) l.count-items
