-- What the parts of a filling promise (02, request 7/13): the verdict of its checks, and the row words with marks added to a row.
use Rattle.std.specs.Prelude.{◌≡◌, List, ℕ, ◌+◌, ◌*◌, get_or, set, Result}
use Rattle.std.specs.Int.Bits.{bit_or}
use Rattle.context.specs.Objects.{Object}
use Rattle.machine.specs.Checks.{State, first_failing}
use Rattle.machine.specs.Machine.{fill, checks_of}
use Rattle.session.specs.declared.Refusal.{Refusal}
use Rattle.size_checks.specs.Verdicts.{verdict_of}

-- the verdict of checks 1 to 7, 32, 9, 33 and 11 of a filling of row k
abbrev pub FillChecked : State → ℕ → Object → Result (Unit {0}) Refusal → Type 0
FillChecked s k m v = verdict_of v ≡ first_failing (checks_of s (fill k m))

-- the words with the marks of m added to the two words of row k
abbrev pub marked : List ℕ → ℕ → Object → List ℕ
marked ws k m = set (set ws (k * 2) (bit_or (get_or ws (k * 2) 0) m.yes_marks)) (k * 2 + 1) (bit_or (get_or ws (k * 2 + 1) 0) m.no_marks)
