-- What an interview of a table file writes and hands over, in the terms of the definition (01, "The program"): an output that fits into the
-- buffer, and the output of the table that was read.
use Rattle.std.specs.Prelude.{◌≡◌, List, [], ℕ, ◌+◌, ◌≤◌, length, Result, Ok}
use Rattle.std.proofs.Common.{sym, ap, ◌∙◌, arith}
use Rattle.session.specs.declared.Refusal.{Refusal}
use Rattle.context.specs.Objects.{objects_of}
use Rattle.machine.specs.Checks.{Lent}
use Rattle.machine.specs.Machine.{opening}
use Rattle.table_layout.specs.Layout.{opened_of}
use Rattle.complete_tables.specs.Complete.{complete_of}
use Rattle.table_layout.specs.declared.Layout.{Layout}
use Rattle.text.specs.Page.{page, text}
use Rattle.transcript.specs.Output.{interviewed, table_of, written, output_with, output_most}
use Rattle.transcript.proofs.Core.Program.{output-size}
use Rattle.table_interview.specs.Places.{ReadComplete}
use Rattle.handed_output.specs.Handing.{untold, most_counted, Hands, WritesIn}
use Rattle.handed_output.proofs.Handing.Laws.{writes-whole}
use Rattle.handed_output.specs.declared.Told.{Told}

-- what a file gives, by what is found in it
found-output : (lent : Lent) (file : List ℕ) (x : Result Layout Refusal) → x ≡ complete_of file (opened_of file) → written lent file x ≡ output_with lent file
unfolding output_with
found-output lent file x e = ap (written lent file) e

-- what is written is the file's output, and fits where the buffer holds every output
pub output-written : (lent : Lent) (file out out' : List ℕ) (r : Told) (x : Result Layout Refusal) → x ≡ complete_of file (opened_of file)
    → (page out' r.end ≡ text (page out 0) (written lent file x)) × (untold.bytes + length out ≤ most_counted → Hands untold r.end r.handed)
    → length out ≡ output_most → WritesIn out out' r (output_with lent file)
output-written lent file out out' r x e t h =
    let whole = t.0 ∙ ap (text (page out 0)) (found-output lent file x e) in
    writes-whole out out' r (output_with lent file) whole t.1 (omega (arith, h, output-size lent file)) (omega (arith, h))

-- the interview of the table that was read
pub table-written : (lent lent' : Lent) (file words out out' : List ℕ) (r : Told) (x : Result Layout Refusal) (l : Layout)
    → ReadComplete file words x → x ≡ Ok l → lent ≡ lent'
    → (page out' r.end ≡ text (page out 0) (interviewed (objects_of l.objects words) (opening l.attributes lent [] [])))
    × (untold.bytes + length out ≤ most_counted → Hands untold r.end r.handed)
    → length out ≡ output_most → WritesIn out out' r (output_with lent' file)
table-written lent lent' file words out out' r x l h e p t =
    output-written lent' file out out' r (Ok l) (sym e ∙ h.answer) (
      t.0 ∙ ap (λ os. text (page out 0) (interviewed os (opening l.attributes lent [] []))) (h.rows l e)
          ∙ ap (λ y. text (page out 0) (interviewed (table_of file l) (opening l.attributes y [] []))) p,
      t.1,
    )
