-- What a reply or a test finds, in document 01's terms ("Refusals in checking order").
use Rattle.std.specs.Prelude.{not, [], ◌∷◌, ◌++◌, Result, Ok, Err}
use Rattle.std.proofs.Math.Option.{Option, none, some}
use Rattle.session.specs.declared.Refusal.{Refusal}
use Rattle.session.specs.Refusals.{refusal}
use Rattle.machine.specs.Checks.{State, check, first_failing, session_checks, question_stands}
use Rattle.machine.specs.Machine.{Call, checks_of}
use Rattle.standing.specs.declared.Question.{Question}
use Rattle.standing.specs.Standings.{question_of}

-- the question that a reply or a test is made to, where its checks pass; else its refusal
abbrev pub asking_after : Question → Option Refusal → Result Question Refusal
asking_after q none = Ok q
asking_after q (some r) = Err r

unfoldable pub asking : State → Call → Result Question Refusal
asking s c = asking_after (question_of s) (first_failing (checks_of s c))

-- the same of the checks that all replies and tests begin with: 1 to 7, and that a question stands
unfoldable pub standing_question : State → Result Question Refusal
standing_question s = asking_after (question_of s) (first_failing (session_checks s [] ++ (check 8 (not (question_stands s)) 0 ∷ [])))

-- where no question stands
abbrev pub unasked : Result Question Refusal
unasked = Err (refusal 8 0)
