-- Demand 3, whole: `demand-3-whole` for one interview, `same-list-whole` for two. The contract of `replay` says that record and
-- words hold the plain machine's state; the rest is the machine's theorem, and what it says of a row that no filling names.
use Rattle.std.specs.Prelude.{◌≡◌, ◌↔◌, true, List, ◌++◌, ℕ, ◌+◌, ◌*◌, ◌<◌, length, get_or}
use Rattle.std.proofs.Common.{sym, ap, ◌∙◌, subst, arith, length-append}
use Rattle.std.proofs.Math.ListN.{get_or-append}
use Rattle.theory.specs.Lists.{All}
use Rattle.implication.proofs.Pairs.Laws.{length_pairs, pairs-get}
use Rattle.implication.specs.Closure.{implication, follows}
use Rattle.context.specs.Objects.{Object, object, objects_of}
use Rattle.context.specs.Filling.{object_at}
use Rattle.machine.specs.Checks.{Lent, State}
use Rattle.machine.specs.Machine.{run}
use Rattle.demands.specs.Replies.{Reply, offered_in, filled_by, FillsOther, replies}
use Rattle.demands.proofs.Replies.Laws.{length-filled-by, unfilled}
use Rattle.demands.specs.Demand3.{Finished, Unrefuted, AfterCalls}
use Rattle.demands.proofs.Demand3.Theorem.{demand_3}
use Rattle.saved_interview.specs.Demand3Whole.{Interview, state_opened, end_state, script, rules, end_rows, end_list, Demand3Whole, SameListWhole}

module _ {n : ℕ} {background : List ℕ} (i : Interview n background) where
  abbrev lent : Lent
  lent = record { rows = length i.rows; list = length i.list; background = length background }

  ends : end_state i ≡ run (state_opened i) (script i)
  ends = i.made.holds

  machine : AfterCalls n lent (rules i) (objects_of i.used i.rows) (state_opened i) (script i)
  machine = demand_3.after_calls n lent (rules i) (objects_of i.used i.rows) (state_opened i) (sym i.opens) (script i)

  list-is : end_list i ≡ (run (state_opened i) (script i)).list
  list-is = ap (λ (s : State). s.list) ends

  rows_are : end_rows i ≡ filled_by (replies (state_opened i) (script i)) (objects_of i.used i.rows ++ offered_in (replies (state_opened i) (script i)))
  rows_are = ap (λ (s : State). s.rows) ends ∙ machine.all_rows

  -- a row of the opening that no filling names is the row it was
  kept_row : (k : ℕ) → k < i.used → All (FillsOther k) (replies (state_opened i) (script i))
      → object (get_or i.rows_later (k * 2) 0) (get_or i.rows_later (k * 2 + 1) 0) ≡ object (get_or i.rows (k * 2) 0) (get_or i.rows (k * 2 + 1) 0)
  kept_row k used others =
      sym (pairs-get object i.end.rows k i.rows_later (object 0 0) still-used) ∙ ap (λ l. object_at l k) rows_are
      ∙ unfilled k rs (first ++ offered_in rs) others ∙ get_or-append first (offered_in rs) (object 0 0) k in-first
      ∙ pairs-get object i.used k i.rows (object 0 0) used
    where
      rs : List Reply
      rs = replies (state_opened i) (script i)

      first : List Object
      first = objects_of i.used i.rows

      in-first : k < length first
      in-first = rw length_pairs used

      still-used : k < i.end.rows
      still-used =
          let count : i.end.rows ≡ length first + length (offered_in rs) =
          sym (length_pairs object i.end.rows i.rows_later) ∙ ap length rows_are ∙ length-filled-by rs (first ++ offered_in rs) ∙ length-append first (offered_in rs) in
          omega (arith, count, in-first)

  finishes : Finished (end_state i) → Finished (run (state_opened i) (script i))
  finishes f = subst (λ s. Finished s) ends f

  pub demand-3-whole : Demand3Whole i
  demand-3-whole = record {
    simulated = ends;
    same_n = ap (λ (s : State). s.n) ends ∙ machine.same_n;
    answered = i.made.answers;
    rows_past = i.made.rows;
    list_past = i.made.list;
    rows_kept = λ k used others.
        let e = kept_row k used others in
        (ap (λ (o : Object). o.yes_marks) e, ap (λ (o : Object). o.no_marks) e);
    all_rows = rows_are;
    all_list = list-is ∙ machine.all_list;
    decided = λ f r o. subst (λ (s : State). (follows (rules i ++ s.list) r ≡ true) ↔ Unrefuted s r) (sym ends) (machine.decided (finishes f) r o);
    shortest = λ l o same. rw (← length_pairs implication i.end.rules i.list_later) (rw list-is (machine.shortest l o (rw list-is at same)));
  }

pub same-list-whole : (n : ℕ) (background : List ℕ) → SameListWhole n background
same-list-whole n background i j f g t h k =
    let same = list-is i ∙ demand_3.same_list n (rules i) (lent i) (lent j) _ _ (state_opened i) (state_opened j) (sym i.opens) (sym j.opens) (script i) (script j) (finishes i f) (finishes j g) t h k ∙ sym (list-is j) in
    record {
      count = sym (length_pairs implication i.end.rules i.list_later) ∙ ap length same ∙ length_pairs implication j.end.rules j.list_later;
      list = same;
    }
