-- What a verdict says, and the verdict of checks 1 to 3, in document 01's terms ("Refusals in checking order").
use Rattle.std.specs.Prelude.{◌≡◌, List, ℕ, take, Result, Ok, Err}
use Rattle.std.proofs.Math.Option.{Option, none, some}
use Rattle.session.specs.declared.Refusal.{Refusal}
use Rattle.theory.specs.Implications.{Implication}
use Rattle.machine.specs.Checks.{State, first_failing, session_checks}

-- none where the checks pass
abbrev pub verdict_of : Result (Unit {0}) Refusal → Option Refusal
verdict_of (Ok passed) = none
verdict_of (Err r) = some r

-- the verdict of checks 1 to 3, whatever implication is asked about
abbrev pub Sizes : State → Result (Unit {0}) Refusal → Type 0
Sizes s v = (asked : List (Implication ℕ)) → verdict_of v ≡ first_failing (take 3 (session_checks s asked))
