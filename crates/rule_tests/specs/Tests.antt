-- The verdict of the checks behind check 8 of a yes, 11 and 12, in document 01's terms ("Refusals in checking order"). They speak of the
-- question that stands.
use Rattle.std.specs.Prelude.{◌≡◌, ℕ, drop, Result}
use Rattle.session.specs.declared.Refusal.{Refusal}
use Rattle.theory.specs.Implications.{Implication}
use Rattle.machine.specs.Checks.{State, first_failing, question, yes_checks}
use Rattle.size_checks.specs.Verdicts.{verdict_of}

-- of a yes to q
abbrev pub RuleTested : State → Implication ℕ → Result (Unit {0}) Refusal → Type 0
RuleTested s q v = q ≡ question s → verdict_of v ≡ first_failing (drop 1 (yes_checks s))
