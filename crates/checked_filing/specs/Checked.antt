-- The filing that leaves checks 1 to 7 to its caller (02, request 6/13): what it does in any state, and what it promises for every record and
-- all lent words. `Laws` proves that where checks 1 to 7 pass it is the filing of the plain machine.
use Rattle.std.specs.Prelude.{◌≡◌, List, ℕ, Result}
use Rattle.std.proofs.Math.Option.{none, some}
use Rattle.context.specs.Objects.{Object}
use Rattle.machine.specs.Checks.{State, first_failing, filing_checks}
use Rattle.machine.specs.Machine.{file, taken, refused, Turn, turn, after_filing}
use Rattle.machine.specs.Calls.{Words, state_of, rows_by, changes}
use Rattle.session.specs.declared.Session.{Session}
use Rattle.session.specs.declared.Refusal.{Refusal}
use Rattle.session.specs.declared.Turn.{Turn as Given}
use Rattle.size_checks.specs.Verdicts.{verdict_of}
use Rattle.session_replies.specs.Answers.{reply_answer}

-- the verdict of checks 9, 11 and 12
abbrev pub FilingChecked : State → Object → Result (Unit {0}) Refusal → Type 0
FilingChecked s o v = verdict_of v ≡ first_failing (filing_checks s o)

-- refused by the first of 9, 11 and 12 that fails; else one row more
unfoldable pub file_checked : State → Object → Turn
file_checked s o = elim (first_failing (filing_checks s o)) [ none ↦ turn taken (after_filing s o) | some r ↦ turn (refused r) s ]

-- the answer, the state that record and words then hold, every lent word, and whether the record changed
pub record FiledFrom (o : Object) (s : Session) (rows list background : List ℕ) (x : Given (Result (Unit {0}) Refusal)) (rows' list' : List ℕ) : Type 0 where
  pub answer : reply_answer x.answer ≡ (file_checked (state_of s rows list background) o).answer
  pub state : state_of x.session rows' list' background ≡ (file_checked (state_of s rows list background) o).after
  pub rows_written : rows' ≡ rows_by (file o) (file_checked (state_of s rows list background) o).answer (state_of s rows list background) rows
  pub list_kept : list' ≡ list
  pub change : x.changed ≡ changes (file_checked (state_of s rows list background) o).answer

abbrev pub FilesChecked : Object → Session → Words → Words → Words → Given (Result (Unit {0}) Refusal) → Type 0
FilesChecked o s rows list background x =
    FiledFrom o s rows.entry.now list.entry.now background.entry.now x rows.exit.now list.exit.now
