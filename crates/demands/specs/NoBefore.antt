-- The no as it was before request 6/13 of document 02, with document 01's checks 8 to 12 in their order, once each. `Theorem` proves that the
-- no still is this: same results, same first refusal.
use Rattle.std.specs.Prelude.{◌≡◌, not, List, [], ◌∷◌, ◌++◌, ◌/◌, length, leb}
use Rattle.std.proofs.Math.Option.{none, some}
use Rattle.context.specs.Objects.{Object, refutes, contradicts}
use Rattle.machine.specs.Checks.{State, force, question, question_stands, Check, check, first_failing, bad_row, session_checks}
use Rattle.machine.specs.Machine.{reject, taken, refused, Turn, turn, after_filing, perform}

-- no question; a bad row; a row that does not refute the question; one that contradicts; no place for a row
unfoldable pub checks_before : State → Object → List Check
checks_before s o =
    check 8 (not (question_stands s)) 0
    ∷ check 9 (bad_row s.n o) 0
    ∷ check 10 (not (refutes (force s) o (question s))) 0
    ∷ check 11 (contradicts (force s) o) 0
    ∷ check 12 (leb (s.lent.rows / 2) (length s.rows)) 0
    ∷ []

-- refused by the first that fails, behind 1 to 7; else one row more
unfoldable pub no_before : State → Object → Turn
no_before s o =
    elim (first_failing (session_checks s [] ++ checks_before s o)) [ none ↦ turn taken (after_filing s o) | some r ↦ turn (refused r) s ]

pub record NoBefore : Type 0 where
  pub as_before : (s : State) (o : Object) → perform s (reject o) ≡ no_before s o
