-- A refusal of the checks is the machine's, and leaves the words; where they pass, the marks are added to the row's words.
use Rattle.std.specs.Prelude.{refl}
use Rattle.std.proofs.Common.{sym}
use Rattle.std.proofs.lemmas.Result.{err_from_is_err_and}
use Rattle.context.specs.Objects.{object}
use Rattle.machine.proofs.Machine.Laws.{perform-refused}
use Rattle.machine.proofs.Calls.Laws.{performs}
use Rattle.session_late_marks.proofs.Marks.Laws.{fill-room, fill-made}
use Rattle.session_late_marks.proofs.fill_row.Goals as goal

pub returns-in_err-check_fill : goal.returns-in_err-check_fill
returns-in_err-check_fill c =
    let p = err_from_is_err_and c.from_residual.result c.from_residual.ensures.1 in
    rw (p.1, p.2) (performs (perform-refused _ _ _ (sym c.in_err-check_fill.ensures)) refl refl)

pub add_marks-requires : goal.add_marks-requires
add_marks-requires c =
    let a = c.args in
    fill-room a.session a.rows.now a.list.now a.background.now a.row (object a.yes a.no) (sym c.in_ok-check_fill.ensures)

pub returns : goal.returns
returns c =
    let a = c.args in
    rw c.add_marks.ensures (fill-made a.session a.rows.now a.list.now a.background.now a.row (object a.yes a.no) (sym c.in_ok-check_fill.ensures))
