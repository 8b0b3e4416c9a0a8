-- The plain machine read by written marks: of document 01's machine (`Checks`, `Machine`) each definition that reads what a row has and
-- lacks, with the marks that are written. So the machine was before request 5/13 of document 02, and so the calls of requests 6/13 and 7/13
-- would have been; checks 1 to 7 never read anything else.
-- `Unchanged` says where it is the machine as it is now.
use Rattle.std.specs.Prelude.{Bool, true, false, not, ◌||◌, List, [], ◌∷◌, ◌++◌, ℕ, ◌/◌, length, take, eqb, leb}
use Rattle.std.proofs.Math.Option.{none, some}
use Rattle.theory.specs.Implications.{Implication}
use Rattle.attribute_set.specs.Sets.{full, without}
use Rattle.implication.specs.Closure.{implication, follows}
use Rattle.context.specs.Places.{lowest, anywhere}
use Rattle.context.specs.Objects.{Object, refutes_written, first_written, marked_twice, contradicts}
use Rattle.written_marks.specs.Written.{reach_written}
use Rattle.machine.specs.Checks.{State, force, Standing, whole, tight, open-question, Check, check, first_failing, strange_object, session_checks, filing_checks, fill_checks}
use Rattle.machine.specs.Machine.{Call, step, accept, reject, follow, refute, test, file, fill, finished, moved, asked, taken, followed, refuting, refused, Turn, turn, after_move, agreeing, after_filing, after_fill, refuted_at}
pub mod Unchanged

-- the reach of the current set
abbrev pub written_reach : State → ℕ
written_reach s = reach_written s.n s.rows s.current

-- how the current set stands
unfoldable pub written_standing : State → Standing
written_standing s =
    elim (eqb s.current (full s.n)) [
      | true ↦ whole
      | false ↦ elim (eqb (written_reach s) s.current) [ true ↦ tight | false ↦ open-question ]
    ]

unfoldable pub written_stands : State → Bool
written_stands s = elim (written_standing s) [ whole ↦ false | tight ↦ false | open-question ↦ true ]

-- the question
abbrev pub written_question : State → Implication ℕ
written_question s = implication s.current (without (written_reach s) s.current)

-- the implications in force with the question in the list
abbrev pub with_written : State → List (Implication ℕ)
with_written s = s.background ++ (s.list ++ (written_question s ∷ []))

-- checks 8, 11 and 12 of a yes
unfoldable pub written_yes : State → List Check
written_yes s =
    check 8 (not (written_stands s)) 0
    ∷ check 11 (anywhere (contradicts (with_written s)) s.rows) (lowest (contradicts (with_written s)) s.rows)
    ∷ check 12 (leb (s.lent.list / 2) (length s.list)) 0
    ∷ []

-- checks 8 to 12 of a no
unfoldable pub written_no : State → Object → List Check
written_no s o =
    check 8 (not (written_stands s)) 0
    ∷ check 9 (strange_object s.n o || marked_twice o) 0
    ∷ check 10 (not (refutes_written o (written_question s))) 0
    ∷ check 11 (contradicts (force s) o) 0
    ∷ check 12 (leb (s.lent.rows / 2) (length s.rows)) 0
    ∷ []

-- of a test (02, request 6/13) the first three of them; the checks of a filing and of a filling read nothing else
abbrev pub written_test : State → Object → List Check
written_test s o = take 3 (written_no s o)

-- what an accepted step does
unfoldable pub written_step : State → Turn
written_step s =
    elim (written_standing s) [
      | whole ↦ turn finished s
      | tight ↦ turn moved (after_move s)
      | open-question ↦ turn (asked (written_question s)) s
    ]

-- what an accepted call does
unfoldable pub written_performed : State → Call → Turn
written_performed s step = written_step s
written_performed s accept = turn taken (agreeing s (written_question s))
written_performed s (reject o) = turn taken (after_filing s o)
written_performed s (follow r) = turn (followed (follows (force s) r)) s
written_performed s (refute r) = turn (refuted_at (first_written s.rows r) (length s.rows)) s
written_performed s (test o) = turn refuting s
written_performed s (file o) = turn taken (after_filing s o)
written_performed s (fill k m) = turn taken (after_fill s k m)

unfoldable pub written_checks : State → Call → List Check
written_checks s step = session_checks s []
written_checks s accept = session_checks s [] ++ written_yes s
written_checks s (reject o) = session_checks s [] ++ written_no s o
written_checks s (follow r) = session_checks s (r ∷ [])
written_checks s (refute r) = session_checks s (r ∷ [])
written_checks s (test o) = session_checks s [] ++ written_test s o
written_checks s (file o) = session_checks s [] ++ filing_checks s o
written_checks s (fill k m) = session_checks s [] ++ fill_checks s k m

-- a call, with its checks
unfoldable pub written_perform : State → Call → Turn
written_perform s c = elim (first_failing (written_checks s c)) [ none ↦ written_performed s c | some r ↦ turn (refused r) s ]
