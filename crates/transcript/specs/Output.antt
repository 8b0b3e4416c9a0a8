-- The program's whole output, from the bytes of standard input to the bytes written (01, "The program"): it opens with no rows
-- and no background, and replies from the table: no with the first file row that refutes, else yes.
-- A refused reply has its Q line before the E line, and no L or END line is written then.
use Rattle.std.specs.Prelude.{Bool, true, false, List, [], ◌++◌, ℕ, zero, suc, ◌+◌, ◌*◌, ◌/◌, ◌^◌, length, get_or, ltb, Result, Ok, Err}
use Rattle.session.specs.declared.Refusal.{Refusal}
use Rattle.theory.specs.Implications.{Implication}
use Rattle.context.specs.Objects.{Object, object, first_written}
use Rattle.session.specs.Limits.{most_objects, most_implications}
use Rattle.machine.specs.Checks.{Lent, State}
use Rattle.machine.specs.Machine.{step, accept, reject, Answer, finished, moved, asked, taken, followed, refuted, unrefuted, refuting, refused, perform, opened, rejected, Opening, opening}
use Rattle.table_layout.specs.Layout.{opened_of}
use Rattle.table_rows.specs.Rows.{rows_from}
use Rattle.complete_tables.specs.Complete.{complete_of}
use Rattle.table_layout.specs.declared.Layout.{Layout}
use Rattle.output_lines.specs.Lines.{yes_line, no_line, list_lines}
use Rattle.closing_lines.specs.Closing.{end_line, refusal_line}

-- what one beat of the interview writes, and how it goes on: with the next state and the changes of the current set so far
pub data Beat : Type 0 where
  more : List ℕ → State → ℕ → Beat
  last : List ℕ → Beat

-- a reply: its Q line; then it goes on where it was taken, and ends in the refusal where it was refused
abbrev pub replied : List ℕ → ℕ → Answer → State → Beat
replied line changes finished s = last line
replied line changes moved s = last line
replied line changes (asked q) s = last line
replied line changes taken s = more line s changes
replied line changes (followed b) s = last line
replied line changes (refuted p) s = last line
replied line changes unrefuted s = last line
replied line changes refuting s = last line
replied line changes (refused r) s = last (line ++ refusal_line r)

-- the reply to a question: no with the first row of the table that refutes it by its own marks, which is counted from 1, else yes
unfoldable pub answered : List Object → State → ℕ → Implication ℕ → Beat
answered table s changes q =
    elim (ltb (first_written table q) (length table)) [
      | true ↦
          let row = first_written table q in
          let t = perform s (reject (get_or table row (object 0 0))) in
          replied (no_line s.n q (row + 1)) changes t.answer t.after
      | false ↦ let t = perform s accept in replied (yes_line s.n q) (suc changes) t.answer t.after
    ]

-- the end: the list in its order and the totals, which are lengths of list, rows and walk
abbrev pub closing : State → ℕ → List ℕ
closing s changes = list_lines s.n s.list ++ end_line (length s.list) (length s.rows) changes

-- after a step: the end at Finished; a move is counted
abbrev pub stepped : List Object → State → ℕ → Answer → State → Beat
stepped table s changes finished s' = last (closing s changes)
stepped table s changes moved s' = more [] s' (suc changes)
stepped table s changes (asked q) s' = answered table s changes q
stepped table s changes taken s' = last []
stepped table s changes (followed b) s' = last []
stepped table s changes (refuted p) s' = last []
stepped table s changes unrefuted s' = last []
stepped table s changes refuting s' = last []
stepped table s changes (refused r) s' = last (refusal_line r)

-- one beat: a step, and the reply where it asks
unfoldable pub beat : List Object → State → ℕ → Beat
beat table s changes = let t = perform s step in stepped table s changes t.answer t.after

-- beats until the last, at most k of them
unfoldable pub beats : ℕ → List Object → State → ℕ → List ℕ
beats zero table s changes = []
beats (suc k) table s changes =
    elim (beat table s changes) [ more line s' changes' ↦ line ++ beats k table s' changes' | last line ↦ line ]

-- whether the last beat is among the first k
unfoldable pub last_within : ℕ → List Object → State → ℕ → Bool
last_within zero table s changes = false
last_within (suc k) table s changes = elim (beat table s changes) [ more line s' changes' ↦ last_within k table s' changes' | last line ↦ true ]

-- a change of the current set goes on to a later one, of 2 to the power n sets, and between two changes at most as many rows are
-- filed as there are places: `Ends` proves that this many beats are enough
abbrev pub enough : State → ℕ
enough s = suc (2 ^ s.n * suc (s.lent.rows / 2) + s.lent.rows / 2)

-- the interview of a complete table, from its opening on
abbrev pub interviewed : List Object → Opening → List ℕ
interviewed table (opened s) = beats (enough s) table s 0
interviewed table (rejected r) = refusal_line r

abbrev pub table_of : List ℕ → Layout → List Object
table_of file l = rows_from l.objects file l.marks

abbrev pub written : Lent → List ℕ → Result Layout Refusal → List ℕ
written lent file (Ok l) = interviewed (table_of file l) (opening l.attributes lent [] [])
written lent file (Err r) = refusal_line r

-- the output where these places are lent
unfoldable pub output_with : Lent → List ℕ → List ℕ
output_with lent file = written lent file (complete_of file (opened_of file))

-- the program lends all places of a session for rows and rules, and no background
abbrev pub places : Lent
places = record { rows = most_objects * 2; list = most_implications * 2; background = 0 }

-- no output is longer than these bytes (`Core/Program`)
abbrev pub output_most : ℕ
output_most = 163840

-- the program's output
abbrev pub output : List ℕ → List ℕ
output file = output_with places file
