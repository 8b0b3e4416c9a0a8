-- The verdict of checks 5 and 6, in document 01's terms ("Refusals in checking order").
use Rattle.std.specs.Prelude.{◌≡◌, List, ℕ, take, drop, Result}
use Rattle.session.specs.declared.Refusal.{Refusal}
use Rattle.theory.specs.Implications.{Implication}
use Rattle.machine.specs.Checks.{State, first_failing, session_checks}
use Rattle.size_checks.specs.Verdicts.{verdict_of}

-- whatever implication is asked about
abbrev pub Marks : State → Result (Unit {0}) Refusal → Type 0
Marks s v = (asked : List (Implication ℕ)) → verdict_of v ≡ first_failing (take 2 (drop 4 (session_checks s asked)))
