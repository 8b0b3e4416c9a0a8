-- The rules under which rows contradict, in document 01's terms ("Refusals in checking order").
use Rattle.std.specs.Prelude.{List, ℕ}
use Rattle.theory.specs.Implications.{Implication}
use Rattle.implication.specs.Closure.{in_force_with}
use Rattle.machine.specs.Calls.{Words}

-- the implications in force in the lent words, and one more: background, list, how many of the list, premise, conclusion
abbrev pub with_rule : Words → Words → ℕ → ℕ → ℕ → List (Implication ℕ)
with_rule background list = in_force_with background.entry.now list.entry.now
