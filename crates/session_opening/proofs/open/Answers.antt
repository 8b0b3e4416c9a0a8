-- The record made is the machine's opening state, and the checks, with nothing asked, decide whether it opens.
use Rattle.std.specs.Prelude.{[]}
use Rattle.std.proofs.Common.{sym, ap, ◌∙◌}
use Rattle.std.proofs.lemmas.Result.{err_from_is_err_and}
use Rattle.machine.specs.Checks.{first_failing, session_checks}
use Rattle.machine.proofs.Checks.Laws.{unasked}
use Rattle.machine.specs.Machine.{opened, opening}
use Rattle.session_opening.proofs.Opening.Laws.{state_opened}
use Rattle.session_opening.proofs.«open».Goals as goal

pub returns-in_err-check_session : goal.returns-in_err-check_session
unfolding opening
returns-in_err-check_session c =
    let a = c.args in
    let held = state_opened a.n a.used a.rows.now a.list.now a.background.now c.closure_of.result c.closure_of.ensures in
    let p = err_from_is_err_and c.from_residual.result c.from_residual.ensures.1 in
    rw (p.1, p.2, sym (c.in_err-check_session.ensures ∙ unasked _ ∙ ap (λ s. first_failing (session_checks s [])) held), opening)

pub returns : goal.returns
unfolding opening
returns c =
    let a = c.args in
    let held = state_opened a.n a.used a.rows.now a.list.now a.background.now c.closure_of.result c.closure_of.ensures in
    rw (sym (c.in_ok-check_session.ensures ∙ unasked _ ∙ ap (λ s. first_failing (session_checks s [])) held), opening) (ap opened held)
