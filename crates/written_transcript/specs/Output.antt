-- The program's whole output by written marks: definition by definition as transcript's `Output`, with the machine read by written marks
-- for the plain machine. So the output was before request 5/13 of document 02; `Unchanged` says that it still is.
use Rattle.std.specs.Prelude.{true, false, List, [], ◌++◌, ℕ, zero, suc, ◌+◌, length, get_or, ltb, Result, Ok, Err}
use Rattle.session.specs.declared.Refusal.{Refusal}
use Rattle.table_layout.specs.declared.Layout.{Layout}
use Rattle.theory.specs.Implications.{Implication}
use Rattle.context.specs.Objects.{Object, object, first_written}
use Rattle.machine.specs.Checks.{Lent, State}
use Rattle.machine.specs.Machine.{step, accept, reject, Answer, finished, moved, asked, taken, followed, refuted, unrefuted, refuting, refused, opened, rejected, Opening, opening}
use Rattle.written_machine.specs.Reading.{written_perform}
use Rattle.table_layout.specs.Layout.{opened_of}
use Rattle.complete_tables.specs.Complete.{complete_of}
use Rattle.output_lines.specs.Lines.{yes_line, no_line}
use Rattle.closing_lines.specs.Closing.{refusal_line}
use Rattle.transcript.specs.Output.{Beat, more, last, replied, closing, enough, table_of, places}
pub mod Unchanged

-- the reply to a question: no with the first row of the table that refutes it, which is counted from 1, else yes
unfoldable pub written_answered : List Object → State → ℕ → Implication ℕ → Beat
written_answered table s changes q =
    elim (ltb (first_written table q) (length table)) [
      | true ↦
          let row = first_written table q in
          let t = written_perform s (reject (get_or table row (object 0 0))) in
          replied (no_line s.n q (row + 1)) changes t.answer t.after
      | false ↦ let t = written_perform s accept in replied (yes_line s.n q) (suc changes) t.answer t.after
    ]

-- after a step: the end at Finished; a move is counted
abbrev pub written_stepped : List Object → State → ℕ → Answer → State → Beat
written_stepped table s changes finished s' = last (closing s changes)
written_stepped table s changes moved s' = more [] s' (suc changes)
written_stepped table s changes (asked q) s' = written_answered table s changes q
written_stepped table s changes taken s' = last []
written_stepped table s changes (followed b) s' = last []
written_stepped table s changes (refuted p) s' = last []
written_stepped table s changes unrefuted s' = last []
written_stepped table s changes refuting s' = last []
written_stepped table s changes (refused r) s' = last (refusal_line r)

-- one beat: a step, and the reply where it asks
unfoldable pub written_beat : List Object → State → ℕ → Beat
written_beat table s changes = let t = written_perform s step in written_stepped table s changes t.answer t.after

-- beats until the last, at most k of them
unfoldable pub written_beats : ℕ → List Object → State → ℕ → List ℕ
written_beats zero table s changes = []
written_beats (suc k) table s changes =
    elim (written_beat table s changes) [ more line s' changes' ↦ line ++ written_beats k table s' changes' | last line ↦ line ]

-- the interview of a complete table, from its opening on
abbrev pub written_interviewed : List Object → Opening → List ℕ
written_interviewed table (opened s) = written_beats (enough s) table s 0
written_interviewed table (rejected r) = refusal_line r

abbrev pub written_from : Lent → List ℕ → Result Layout Refusal → List ℕ
written_from lent file (Ok l) = written_interviewed (table_of file l) (opening l.attributes lent [] [])
written_from lent file (Err r) = refusal_line r

-- the output where these places are lent
unfoldable pub written_output_with : Lent → List ℕ → List ℕ
written_output_with lent file = written_from lent file (complete_of file (opened_of file))

-- the program's output
abbrev pub written_output : List ℕ → List ℕ
written_output file = written_output_with places file
