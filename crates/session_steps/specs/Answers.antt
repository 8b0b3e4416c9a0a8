-- What each answer of the step says in document 01's terms (01, "How each place should look": a definition gives the number and values
-- for each case).
use Rattle.std.specs.Prelude.{Result, Ok, Err}
use Rattle.implication.specs.Closure.{implication}
use Rattle.machine.specs.Machine.{Answer, finished, moved, asked, refused}
use Rattle.session.specs.declared.Refusal.{Refusal}
use Rattle.session_steps.specs.declared.Step.{Step}
use Rattle.session_steps.specs.declared.Step.TheVariants.{Finished, Moved, Asked}

abbrev pub step_answer : Result Step Refusal → Answer
step_answer (Ok Finished) = finished
step_answer (Ok Moved) = moved
step_answer (Ok (Asked q)) = asked (implication q.premise q.conclusion)
step_answer (Err r) = refused r
