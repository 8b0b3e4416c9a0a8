-- Each part of the checks decides where those before it pass; the row's words are read where it is in use.
use Rattle.std.proofs.Common.{◌∙◌}
use Rattle.std.proofs.lemmas.Result.{err_from_is_err_and}
use Rattle.session_late_marks.proofs.Marks.Laws.{session_refused, unused, row_checked}
use Rattle.session_late_marks.proofs.check_fill.Goals as goal

pub returns-in_err-check_session : goal.returns-in_err-check_session
returns-in_err-check_session c =
    let p = err_from_is_err_and c.from_residual.result c.from_residual.ensures.1 in
    rw (p.1, p.2) (session_refused _ _ _ _ _ _ c.in_err-check_session.ensures)

pub returns-then-session-row : goal.returns-then-session-row
returns-then-session-row c =
    let a = c.args in
    c.refused.ensures ∙ unused a.session a.rows.now a.list.now a.background.now a.row _ c.in_ok-check_session.ensures c.if-session-row.true

pub returns : goal.returns
returns c =
    let a = c.args in
    c.check_added_marks.ensures ∙ row_checked a.session a.rows.now a.list.now a.background.now a.row _ c.in_ok-check_session.ensures c.if-session-row.false
