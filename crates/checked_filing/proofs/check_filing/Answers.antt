-- Checks 9 and 11 refuse, or check 12 decides.
use Rattle.std.proofs.Common.{◌∙◌, arith}
use Rattle.std.proofs.lemmas.Result.{err_from_is_err_and}
use Rattle.checked_filing.proofs.Checked.Laws.{early_refused, no_place, a_place}
use Rattle.checked_filing.proofs.check_filing.Goals as goal

pub returns-in_err-check_filed_row-clause-verdict : goal.returns-in_err-check_filed_row-clause-verdict
returns-in_err-check_filed_row-clause-verdict c =
    let p = err_from_is_err_and c.from_residual.result c.from_residual.ensures.1 in
    rw (p.1, p.2) (early_refused _ _ _ _ _ c.in_err-check_filed_row.ensures)

pub returns-then-rows-session-clause-verdict : goal.returns-then-rows-session-clause-verdict
returns-then-rows-session-clause-verdict c =
    let a = c.args in
    c.refused.ensures ∙ no_place a.session a.rows.now a.list.now a.background.now _ c.in_ok-check_filed_row.ensures (omega arith)

pub returns-clause-verdict : goal.returns-clause-verdict
returns-clause-verdict c =
    let a = c.args in
    a_place a.session a.rows.now a.list.now a.background.now _ c.in_ok-check_filed_row.ensures (omega arith)
