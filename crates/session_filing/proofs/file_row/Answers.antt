-- A refusal of checks 1 to 7 is the machine's; where they pass, the filing behind them is the filing.
use Rattle.std.specs.Prelude.{◌≡◌, [], ◌∷◌}
use Rattle.std.proofs.Common.{sym, ◌∙◌}
use Rattle.std.proofs.Math.Option.{some}
use Rattle.session.specs.declared.Refusal.{Refusal}
use Rattle.implication.specs.Closure.{implication}
use Rattle.context.specs.Objects.{Object}
use Rattle.machine.specs.Checks.{State, first_failing, session_checks, filing_checks}
use Rattle.machine.proofs.Checks.Laws.{failing-first, unasked}
use Rattle.machine.specs.Machine.{file, turn, refused, checks_of, perform}
use Rattle.machine.proofs.Machine.Laws.{perform-refused}
use Rattle.session_replies.proofs.Answers.Laws.{refused-turns}
use Rattle.checked_filing.proofs.Checked.Laws.{checked-turns}
use Rattle.session_filing.proofs.file_row.Goals as goal

refusing : (s : State) (o : Object) {r : Refusal} → some r ≡ first_failing (session_checks s (implication 0 0 ∷ [])) → perform s (file o) ≡ turn (refused r) s
unfolding checks_of
refusing s o e = perform-refused s (file o) _ (failing-first (session_checks s []) (filing_checks s o) _ (sym (e ∙ unasked s)))

pub returns-in-Err : goal.returns-in-Err
returns-in-Err c = refused-turns _ c.refused.ensures (refusing _ _ c.in-Err.ensures)

pub returns : goal.returns
returns c = checked-turns (sym (c.in_default.ensures ∙ unasked _)) c.file_checked.ensures
