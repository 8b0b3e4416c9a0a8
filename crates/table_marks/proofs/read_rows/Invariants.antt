-- The words so far, with the rows of the lines left, are the rows of all the lines.
use Rattle.mark_reading.proofs.Marks.Loop.{Reads}
use Rattle.table_marks.proofs.read_rows.Given as goal

abbrev pub invariant-loop-i : goal.invariant-loop-i
invariant-loop-i l = Reads l.part l.count l.n l.fn.rows l.rows l.at l.i
