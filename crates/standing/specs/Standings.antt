-- What is found of the current set, in document 01's terms ("Refusals in checking order").
use Rattle.std.specs.Prelude.{[], Result, Ok, Err}
use Rattle.std.proofs.Math.Option.{Option, none, some}
use Rattle.session.specs.declared.Refusal.{Refusal}
use Rattle.machine.specs.Checks.{State, first_failing, session_checks, question, whole, tight, open-question, standing}
use Rattle.standing.specs.declared.Question.{Question}
use Rattle.standing.specs.declared.Standing.{Standing}
use Rattle.standing.specs.declared.Standing.TheVariants.{Full, Tight, Open}

-- the question, as the code has it
abbrev pub question_of : State → Question
question_of s = record { premise = (question s).premise; conclusion = (question s).conclusion }

-- how the current set stands
unfoldable pub stood : State → Standing
stood s = elim (standing s) [ whole ↦ Full | tight ↦ Tight | open-question ↦ Open (question_of s) ]

-- the same, where checks 1 to 7 pass; else the refusal
abbrev pub found_after : State → Option Refusal → Result Standing Refusal
found_after s none = Ok (stood s)
found_after s (some r) = Err r

unfoldable pub found : State → Result Standing Refusal
found s = found_after s (first_failing (session_checks s []))
