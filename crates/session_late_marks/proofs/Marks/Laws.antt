-- A row in use has two words (`used-room`), and row k of the machine is what they hold (`row_words`). Where a filling passes its checks its row is
-- in use (`fill-room`), and to add the marks to its words is that filling of the plain machine (`fill-made`).
use Rattle.std.specs.Prelude.{◌≡◌, get_or}
use Rattle.std.proofs.Math.Path.{refl, ap}
use Rattle.std.proofs.Common.{sym, ◌∙◌, subst, arith}
use mathlib.Core.List.{List, [], ◌∷◌}
use Rattle.std.proofs.Math.Option.{none, some}
use Prim.Native.Nat.{ℕ, ◌+◌, ◌*◌, ◌<◌, ◌≤◌}
use Rattle.std.proofs.Math.ListN.{length, set, length-set}
use borrow.Author.Tests.{le-leb, lt-leb}
use Rattle.session.specs.declared.Session.{Session}
use Rattle.session.specs.declared.Refusal.{Refusal}
use Rattle.session.specs.Refusals.{refusal}
use Rattle.implication.proofs.Pairs.Laws.{length_pairs, pairs-get, pairs_set}
use Rattle.implication.specs.Closure.{implication, implications_of, all_implications}
use Rattle.context.specs.Objects.{Object, object, objects_of, contradicts}
use Rattle.context.specs.Filling.{joined, object_at, filled_at, reverses}
use Rattle.machine.specs.Checks.{State, force, Check, check, bad_row, first_failing, session_checks, fill_checks}
use Rattle.machine.proofs.Checks.Laws.{passed, passed-append, failing-first, failing-append, failing-here, failing-later, none-failing, checked-small, unasked}
use Rattle.machine.specs.Machine.{fill, taken, turn, after_fill, performed, checks_of}
use Rattle.machine.proofs.Machine.Laws.{perform-accepted, fill-used}
use Rattle.machine.specs.Calls.{state_of, MadeFrom}
use Rattle.machine.proofs.Calls.Laws.{performs}
use Rattle.session_late_marks.specs.Marks.{marked}

module _ (x : Session) (rows list background : List ℕ) (k : ℕ) where
  abbrev before : State
  before = state_of x rows list background

  -- 9, 33 and 11 of the row o with the marks of m
  abbrev marks_checks : Object → Object → List Check
  marks_checks o m = check 9 (bad_row before.n m) 0 ∷ check 33 (reverses o m) 0 ∷ check 11 (contradicts (force before) (joined o m)) 0 ∷ []

  -- a row in use has two words
  pub used-room : first_failing (session_checks before []) ≡ none → k < x.rows → k * 2 + 1 < length rows
  used-room e h =
      let fits = (checked-small before [] e).1 in
      let count = length_pairs object x.rows rows in
      omega (arith, fits, count, h)

  -- and they are the machine's row
  pub row_words : k < x.rows → object_at before.rows k ≡ object (get_or rows (k * 2) 0) (get_or rows (k * 2 + 1) 0)
  row_words h = pairs-get object x.rows k rows (object 0 0) h

  module _ (m : Object) where
    -- what checks 1 to 7 refuse; where they pass, check 32 decides, or leaves the verdict to those of the row
    pub session_refused : {r : Refusal} → some r ≡ first_failing (session_checks before (implication 0 0 ∷ []))
        → some r ≡ first_failing (checks_of before (fill k m))
    unfolding checks_of
    session_refused e = sym (failing-first (session_checks before []) (fill_checks before k m) _ (sym (e ∙ unasked before)))

    module _ (seven : none ≡ first_failing (session_checks before (implication 0 0 ∷ []))) where
      behind : first_failing (checks_of before (fill k m)) ≡ first_failing (fill_checks before k m)
      unfolding checks_of
      behind = failing-append (session_checks before []) (fill_checks before k m) (passed _ (sym (seven ∙ unasked before)))

      pub unused : x.rows ≤ k → some (refusal 32 0) ≡ first_failing (checks_of before (fill k m))
      unfolding fill_checks
      unused h = sym (behind ∙ failing-here _ _ (rw length_pairs (le-leb x.rows k h)))

      pub fill_places : k < x.rows → k * 2 + 1 < length rows
      fill_places h = used-room (sym (seven ∙ unasked before)) h

      pub row_checked : k < x.rows
          → first_failing (marks_checks (object (get_or rows (k * 2) 0) (get_or rows (k * 2 + 1) 0)) m) ≡ first_failing (checks_of before (fill k m))
      unfolding fill_checks
      row_checked h =
          ap (λ o. first_failing (marks_checks o m)) (sym (row_words h))
          ∙ sym (behind ∙ failing-later _ _ (rw length_pairs (lt-leb x.rows k h)))

    used : first_failing (checks_of before (fill k m)) ≡ none → k < x.rows
    used e = subst (λ i. k < i) (length_pairs object x.rows rows) (fill-used before k m e)

    pub fill-room : first_failing (checks_of before (fill k m)) ≡ none → k * 2 + 1 < length rows
    unfolding checks_of
    fill-room e = used-room (none-failing _ (passed-append (session_checks before []) (fill_checks before k m) e).0) (used e)

    -- the words after it hold the state after it
    fill_holds : k < x.rows → k * 2 + 1 < length rows → state_of x (marked rows k m) list background ≡ after_fill before k m
    unfolding filled_at
    fill_holds u h = λ i. record {
      n = x.n;
      lent = record { rows = same i; list = length list; background = length background };
      background = all_implications background;
      rows = filled i;
      list = implications_of x.rules list;
      current = x.current;
    }
      where
        same : length (marked rows k m) ≡ length rows
        same = length-set (set rows (k * 2) _) (k * 2 + 1) _ ∙ length-set rows (k * 2) _

        filled : objects_of x.rows (marked rows k m) ≡ filled_at k m (objects_of x.rows rows)
        filled = pairs_set object x.rows k rows _ _ h ∙ ap (λ o. set (objects_of x.rows rows) k (joined o m)) (sym (row_words u))

    pub fill-made : first_failing (checks_of before (fill k m)) ≡ none
        → MadeFrom (λ a. a) (fill k m) x rows list background taken x (marked rows k m) list
    unfolding performed
    fill-made e =
        let held = fill_holds (used e) (fill-room e) in
        performs (perform-accepted before (fill k m) e ∙ ap (turn taken) (sym held)) (ap written (sym (row_words (used e)))) refl
      where
        -- the words with the marks added to this row
        written : Object → List ℕ
        written o = set (set rows (k * 2) (joined o m).yes_marks) (k * 2 + 1) (joined o m).no_marks
