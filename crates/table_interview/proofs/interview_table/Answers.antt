-- The opening is the machine's; where it is accepted, the interview is one of a complete table.
use Rattle.std.proofs.Common.{sym, ap, ◌∙◌, length}
use Rattle.context.specs.Objects.{objects_of}
use Rattle.text.specs.Page.{page, text}
use Rattle.transcript.specs.Output.{interviewed}
use Rattle.transcript.proofs.Core.Kept.{opened-along}
use Rattle.table_interview.specs.Places.{lent_of}
use Rattle.table_interview.proofs.Places.Laws.{opening-found}
use Rattle.table_interview.proofs.interview_table.Goals as goal

pub run_beats-requires-clause-along : goal.run_beats-requires-clause-along
run_beats-requires-clause-along g c =
    let a = c.args in
    let o = c.open in
    opened-along (objects_of a.objects a.table.now) a.n (lent_of (length a.rows.now) (length a.list.now)) _ c.requires.complete
    (sym (opening-found a.n a.rows.now a.list.now o.result _ o.ensures c.in-Ok.is))

pub returns-in-Err : goal.returns-in-Err
returns-in-Err g c =
    let a = c.args in
    let o = c.open in
    let w = c.write_refusal.ensures in (
      w.0
          ∙ ap (λ x. text (page a.out.now 0) (interviewed (objects_of a.objects a.table.now) x))
          (opening-found a.n a.rows.now a.list.now o.result _ o.ensures c.in-Err.is),
      w.1,
    )

pub returns-in-Ok : goal.returns-in-Ok
returns-in-Ok g c =
    let a = c.args in
    let o = c.open in
    let w = c.run_beats.ensures in (
      w.0
          ∙ ap (λ x. text (page a.out.now 0) (interviewed (objects_of a.objects a.table.now) x))
          (opening-found a.n a.rows.now a.list.now o.result _ o.ensures c.in-Ok.is),
      w.1,
    )
