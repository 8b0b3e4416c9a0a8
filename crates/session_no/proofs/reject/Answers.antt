-- A test that is refused refuses the no; where it passes, checks 1 to 7 pass and the no is the filing.
use Rattle.std.specs.Prelude.{refl}
use Rattle.std.proofs.Common.{sym}
use Rattle.context.specs.Objects.{object}
use Rattle.demands.proofs.InTurn.Theorem.{no-refused, no-filed}
use Rattle.machine.specs.Calls.{state_of}
use Rattle.machine.proofs.Calls.Laws.{as_call}
use Rattle.session_replies.proofs.Answers.Laws.{refused-turns}
use Rattle.checked_filing.proofs.Checked.Laws.{checked-turns}
use Rattle.session_no.proofs.reject.Goals as goal

pub returns-in-Err : goal.returns-in-Err
returns-in-Err c =
    let a = c.args in
    let s = state_of a.session a.rows.now a.list.now a.background.now in
    refused-turns _ c.refused.ensures (no-refused s (object a.yes a.no) _ (sym c.in-Err.ensures.answer))

pub returns : goal.returns
returns c =
    let a = c.args in
    let s = state_of a.session a.rows.now a.list.now a.background.now in
    let same = no-filed s (object a.yes a.no) (sym c.in_default.ensures.answer) in
    as_call same.1 (λ x. refl) (λ x. refl) (checked-turns same.0 c.file_checked.ensures)
