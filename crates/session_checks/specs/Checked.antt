-- The verdicts of check 7 and of checks 1 to 7, in document 01's terms ("Refusals in checking order").
use Rattle.std.specs.Prelude.{◌≡◌, not, [], ◌∷◌, ℕ, eqb, Result}
use Rattle.std.proofs.Math.Option.{Option, none, some}
use Rattle.session.specs.declared.Refusal.{Refusal}
use Rattle.theory.specs.Implications.{Implication}
use Rattle.implication.specs.Closure.{in_force, closure}
use Rattle.machine.specs.Checks.{State, check, first_failing, session_checks}
use Rattle.machine.specs.Calls.{Words}
use Rattle.size_checks.specs.Verdicts.{verdict_of}

-- the first of two refusals, where either may be none
abbrev pub first_of : Option Refusal → Option Refusal → Option Refusal
first_of none w = w
first_of (some r) w = some r

-- check 7 of the lent words: background, list, how many of the list are in use, and the current set
abbrev pub Closed : Words → Words → ℕ → ℕ → Result (Unit {0}) Refusal → Type 0
Closed background list rules current v =
    verdict_of v
    ≡ first_failing (check 7 (not (eqb (closure (in_force background.entry.now list.entry.now rules) current) current)) 0 ∷ [])

-- checks 1 to 7, with an implication asked about; the empty one, {} to {}, where none is
abbrev pub Checked : State → Implication ℕ → Result (Unit {0}) Refusal → Type 0
Checked s asked v = verdict_of v ≡ first_failing (session_checks s (asked ∷ []))
