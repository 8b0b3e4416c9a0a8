-- Listing what nearly always comes with a premise (02, request 3/13): what is answered. n attributes (01: properties), so many rows in use,
-- the row words, the premise, the percentage. Nothing is written.
use Rattle.std.specs.Prelude.{◌≡◌, List, [], ◌∷◌, ◌++◌, ℕ, ltb, Result, Ok, Err}
use Rattle.std.proofs.Math.Option.{Option, none, some}
use Rattle.session.specs.declared.Refusal.{Refusal}
use Rattle.context.specs.Objects.{objects_of}
use Rattle.machine.specs.Checks.{Check, check, first_failing}
use Rattle.machine.specs.Calls.{Words}
use Rattle.size_checks.specs.Verdicts.{verdict_of}
use Rattle.row_checks.specs.Rows.{row_checks_with}
use Rattle.nearly_always.specs.Nearly.{nearly_always, most_percent}
pub mod Places

-- a percentage above 99
abbrev pub percent_check : ℕ → Check
percent_check percent = check 31 (ltb most_percent percent) 0

abbrev pub PercentChecked : ℕ → Result (Unit {0}) Refusal → Type 0
PercentChecked percent v = verdict_of v ≡ first_failing (percent_check percent ∷ [])

-- the checks in their order: 1 to 5, where 4 covers the premise too; that of the percentage
unfoldable pub list_checks : ℕ → ℕ → List ℕ → ℕ → ℕ → List Check
list_checks n used words premise percent = row_checks_with n used words premise ++ (percent_check percent ∷ [])

-- the set, or the first check that fails
abbrev pub listed_by : Option Refusal → ℕ → Result ℕ Refusal
listed_by none set = Ok set
listed_by (some r) set = Err r

abbrev pub listing : ℕ → ℕ → List ℕ → ℕ → ℕ → Result ℕ Refusal
listing n used words premise percent =
    listed_by (first_failing (list_checks n used words premise percent)) (nearly_always n percent (objects_of used words) premise)

-- over the lent row words
abbrev pub Lists : ℕ → ℕ → Words → ℕ → ℕ → Result ℕ Refusal → Type 0
Lists n used rows premise percent x = x ≡ listing n used rows.entry.now premise percent
