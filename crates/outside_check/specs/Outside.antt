-- The verdict of check 4 of document 01 ("Refusals in checking order"), which speaks of a state that passes checks 1 to 3.
use Rattle.std.specs.Prelude.{◌≡◌, Bool, [], ◌∷◌, ℕ, ◌/◌, ◌≤◌, length}
use Rattle.theory.specs.Implications.{Implication}
use Rattle.session.specs.Limits.{most_attributes}
use Rattle.machine.specs.Checks.{State, outside_m}

-- what checks 1 and 3 say of a state: no more attributes than a session has, and no more rows and rules than places
abbrev pub Fits : State → Type 0
Fits s = (s.n ≤ most_attributes) × (length s.rows ≤ s.lent.rows / 2) × (length s.list ≤ s.lent.list / 2)

-- whether check 4 fails, with an implication asked about; the empty one, {} to {}, where none is
abbrev pub Outside : State → Implication ℕ → Bool → Type 0
Outside s asked b = Fits s → b ≡ outside_m s (asked ∷ [])
