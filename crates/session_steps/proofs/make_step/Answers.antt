-- What was found decides, as in the machine's step.
use Rattle.std.specs.Prelude.{refl}
use Rattle.machine.proofs.Calls.Laws.{performs, turns}
use Rattle.session_steps.proofs.Answers.Laws.{step-refused, step-stood, step-moved}
use Rattle.session_steps.proofs.make_step.Goals as goal

pub returns-in-Err : goal.returns-in-Err
returns-in-Err c = rw c.kept.ensures (turns (performs (step-refused _ c.in-Err.ensures) refl refl) refl)

pub returns-in-Ok-Full : goal.returns-in-Ok-Full
returns-in-Ok-Full c =
    rw c.kept-in-Ok-Full.ensures (turns (performs (step-stood _ c.in-Ok-Full.ensures c.in-Ok-Full.field-0-is) refl refl) refl)

pub returns-in-Ok-Open : goal.returns-in-Ok-Open
returns-in-Ok-Open c =
    rw c.kept-in-Ok-Open.ensures (turns (performs (step-stood _ c.in-Ok-Open.ensures c.in-Ok-Open.field-0-is) refl refl) refl)

pub returns-in-Ok-Tight : goal.returns-in-Ok-Tight
returns-in-Ok-Tight c =
    let moved = step-moved _ c.in-Ok-Tight.ensures c.in-Ok-Tight.field-0-is c.next_of-current.ensures in
    rw c.changed.ensures (turns (performs moved refl refl) refl)
