-- The counts so far, with the rows not yet read, are those of all rows.
use Rattle.std.proofs.Common.{◌-◌, ◌*◌, drop}
use Rattle.context.specs.Objects.{objects_of}
use Rattle.nearly_always.specs.Nearly.Counting.{CountedBut}
use Rattle.row_counts.proofs.count_rows.Given as goal

abbrev pub invariant-loop-row : goal.invariant-loop-row
invariant-loop-row l =
    CountedBut l.n (objects_of (l.used - l.row-index) (drop (l.row-index * 2) l.rows)) (objects_of l.used l.rows) l.premise l.total l.counts
