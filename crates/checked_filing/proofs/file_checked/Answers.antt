-- A refusal leaves the words; else the offered row is written at the next place, which check 12 leaves free.
use Rattle.std.proofs.Common.{sym}
use Rattle.checked_filing.proofs.Checked.Laws.{filed-refused, filed-taken}
use Rattle.checked_filing.proofs.file_checked.Goals as goal

pub returns-in-Err : goal.returns-in-Err
returns-in-Err c = filed-refused _ c.refused.ensures (sym c.in-Err.ensures.verdict)

pub returns : goal.returns
returns c =
    let a = c.args in
    rw c.changed.ensures (filed-taken a.session a.rows.now a.list.now a.background.now a.yes a.no (sym c.in_default.ensures.verdict) c.in_default.ensures.room)
