-- Its checks one by one (`early_refused`, `no_place`, `a_place`); the filing behind checks 1 to 7 from what they say (`filed-refused`, `filed-taken`); where 1 to 7 pass, it is the filing of the plain
-- machine (`checked-filing`, `checked-turns`).
use Rattle.std.specs.Prelude.{◌≡◌, refl, List, [], ◌∷◌, ℕ, ◌+◌, ◌*◌, ◌/◌, ◌≤◌, ◌<◌, leb, length, set, Result, Ok}
use Rattle.std.proofs.Common.{sym, ap, ◌∙◌, subst}
use Rattle.std.proofs.Math.Option.{Option, none, some}
use borrow.Author.Tests.{le-leb, lt-leb}
use Rattle.session.specs.Refusals.{refusal}
use Rattle.implication.proofs.Pairs.Laws.{length_pairs}
use Rattle.context.specs.Objects.{Object, object, contradicts}
use Rattle.session.specs.declared.Session.{Session}
use Rattle.session.specs.declared.Refusal.{Refusal}
use Rattle.session.specs.declared.Turn.{Turn as Given}
use Rattle.session.specs.Turns.{changed_with}
use Rattle.machine.specs.Checks.{State, force, Check, check, bad_row, first_failing, session_checks, filing_checks}
use Rattle.machine.proofs.Checks.Laws.{passed, failing-first, failing-append, failing-here, failing-later, failing-nothing}
use Rattle.machine.specs.Machine.{file, Answer, taken, refused, Turn, turn, after_filing, performed, checks_of, perform}
use Rattle.machine.specs.Calls.{state_of, rows_by, changes, TurnedFrom}
use Rattle.session_replies.specs.Answers.{reply_answer, refused_with}
use Rattle.session_replies.proofs.Answers.Laws.{filing-holds}
use Rattle.checked_filing.specs.Checked.{file_checked, FiledFrom}

-- 9 and 11 refuse, or leave the verdict to check 12
module _ (x : Session) (rows list background : List ℕ) (o : Object) where
  abbrev before : State
  before = state_of x rows list background

  abbrev early : List Check
  early = check 9 (bad_row before.n o) 0 ∷ check 11 (contradicts (force before) o) 0 ∷ []

  pub early_refused : {r : Refusal} → some r ≡ first_failing early → some r ≡ first_failing (filing_checks before o)
  unfolding filing_checks
  early_refused e = sym (failing-first early _ _ (sym e))

  module _ (passed-early : none ≡ first_failing early) where
    late : first_failing (filing_checks before o) ≡ first_failing (check 12 (leb (length rows / 2) (length before.rows)) 0 ∷ [])
    unfolding filing_checks
    late = failing-append early _ (passed early (sym passed-early))

    pub no_place : length rows / 2 ≤ x.rows → some (refusal 12 0) ≡ first_failing (filing_checks before o)
    no_place h = sym (late ∙ failing-here _ [] (rw length_pairs (le-leb (length rows / 2) x.rows h)))

    pub a_place : x.rows < length rows / 2 → none ≡ first_failing (filing_checks before o)
    a_place h = sym (late ∙ failing-later _ [] (rw length_pairs (lt-leb (length rows / 2) x.rows h)) ∙ failing-nothing)

-- the turn by what its checks say
abbrev turn_by : State → Object → Option Refusal → Turn
turn_by s o v = elim v [ none ↦ turn taken (after_filing s o) | some r ↦ turn (refused r) s ]

by-checks : (s : State) (o : Object) (v : Option Refusal) → first_failing (filing_checks s o) ≡ v → file_checked s o ≡ turn_by s o v
unfolding file_checked
by-checks s o v e = ap (turn_by s o) e

pub checked-filing : (s : State) (o : Object) → first_failing (session_checks s []) ≡ none → perform s (file o) ≡ file_checked s o
unfolding perform performed checks_of file_checked
checked-filing s o ok =
    ap (turn_by s o) (failing-append (session_checks s []) (filing_checks s o) (passed _ ok))

-- from the whole turn and the words
module _ {o : Object} {s : Session} {rows list background rows' : List ℕ} {x : Given (Result (Unit {0}) Refusal)} where
  from-turn : file_checked (state_of s rows list background) o ≡ turn (reply_answer x.answer) (state_of x.session rows' list background)
      → rows' ≡ rows_by (file o) (reply_answer x.answer) (state_of s rows list background) rows → x.changed ≡ changes (reply_answer x.answer)
      → FiledFrom o s rows list background x rows' list
  from-turn e p c = record {
    answer = sym (ap (λ (t : Turn). t.answer) e);
    state = sym (ap (λ (t : Turn). t.after) e);
    rows_written = p ∙ sym (ap (λ (t : Turn). rows_by (file o) t.answer (state_of s rows list background) rows) e);
    list_kept = refl;
    change = c ∙ sym (ap (λ (t : Turn). changes t.answer) e);
  }

pub filed-refused : {o : Object} {s : Session} {rows list background : List ℕ} {x : Given (Result (Unit {0}) Refusal)} (r : Refusal) → x ≡ refused_with s r
    → first_failing (filing_checks (state_of s rows list background) o) ≡ some r → FiledFrom o s rows list background x rows list
filed-refused {o} {s} {rows} {list} {background} r same e =
    let turned = by-checks (state_of s rows list background) o (some r) e in
    subst (λ (y : Given (Result (Unit {0}) Refusal)). FiledFrom o s rows list background y rows list) (sym same) (from-turn turned refl refl)

-- a row that passes is written at the next place, of which there is one
module _ (s : Session) (rows list background : List ℕ) (a b : ℕ) where
  abbrev filed_record : Given (Result (Unit {0}) Refusal)
  filed_record = changed_with (record { n = s.n; rows = s.rows + 1; rules = s.rules; current = s.current }) (Ok tt)

  pub filed-taken : first_failing (filing_checks (state_of s rows list background) (object a b)) ≡ none → s.rows * 2 + 1 < length rows
      → FiledFrom (object a b) s rows list background filed_record (set (set rows (s.rows * 2) a) (s.rows * 2 + 1) b) list
  filed-taken e room =
      let turned = by-checks (state_of s rows list background) (object a b) none e in
      from-turn (turned ∙ ap (turn taken) (sym (filing-holds s rows list background a b room)))
      (ap (λ (k : ℕ). set (set rows (k * 2) a) (k * 2 + 1) b) (sym (length_pairs object s.rows rows))) refl

pub checked-turns : {o : Object} {s : Session} {rows list background rows' list' : List ℕ} {x : Given (Result (Unit {0}) Refusal)}
    → first_failing (session_checks (state_of s rows list background) []) ≡ none → FiledFrom o s rows list background x rows' list'
    → TurnedFrom (λ (a : Answer). a) (file o) s rows list background (reply_answer x.answer) x.session rows' list' x.changed
checked-turns {o} {s} {rows} {list} {background} ok f =
    let g = state_of s rows list background in
    let e = checked-filing g o ok in
    record {
      made = record {
        answer = f.answer ∙ sym (ap (λ (t : Turn). t.answer) e);
        state = f.state ∙ sym (ap (λ (t : Turn). t.after) e);
        rows_written = f.rows_written ∙ sym (ap (λ (t : Turn). rows_by (file o) t.answer g rows) e);
        list_written = f.list_kept;
      };
      change = f.change ∙ sym (ap (λ (t : Turn). changes t.answer) e);
    }
