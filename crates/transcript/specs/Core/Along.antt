-- What holds along an interview of a complete table: what a row of the table counts as having and lacking is what is written, so that
-- reach, question and refutation are those by written marks (`same-reach`, `same-question`, `same-refutes`), and every check of a session
-- passes (`session-passes`): 01, 1 to 7.
use Rattle.std.specs.Prelude.{◌≡◌, refl, Bool, false, ◌||◌, ℕ, ◌/◌, ◌≤◌, length, eqb, ltb}
use Rattle.std.proofs.Common.{sym, ap, eq-eqb, le-ltb, ltb-false}
use Rattle.std.proofs.Math.Path.{subst}
use Rattle.std.proofs.Math.Bool.{not}
use mathlib.Core.List.{List, [], ◌++◌, Memᴰ, append-nil}
use Rattle.std.proofs.Math.Option.{none}
use Rattle.theory.specs.Lists.{All, Pairwise}
use Rattle.theory.proofs.Lists.Laws.{all_nil, all_append}
use Rattle.theory.specs.Implications.{Implication, Over}
use Rattle.attribute_set.specs.Sets.{full, without}
use Rattle.attribute_set.proofs.Sets.Laws.{sub_refl, sub-inside, or_left, or_right}
use Rattle.attribute_set.proofs.Lectic.Rank.{rank}
use Rattle.attribute_set.proofs.Words.{words}
use Rattle.implication.specs.Closure.{implication, closure}
use Rattle.implication.proofs.Closure.Laws.{closed-closure}
use Rattle.context.proofs.Places.Laws.{all-anywhere}
use Rattle.context.specs.Objects.{Object, refutes, refutes_written, contradicts}
use Rattle.context.proofs.Objects.Laws.{apart-marked}
use Rattle.context.specs.Tables.{Table, AgreesObject, AgreesImplication}
use Rattle.context.proofs.Tables.Laws.{no-contradiction}
use Rattle.session.specs.Limits.{bad_length, most_attributes, most_objects, most_implications}
use Rattle.written_marks.proofs.Written.Laws.{Settled, refutes-written, reach-written}
use Rattle.machine.specs.Checks.{State, force, reach_of, question, strange, strange_object, strange_implication, outside_m, first_failing, session_checks}
use Rattle.machine.proofs.Checks.Laws.{InM, Passed, none-failing, or-false}
use Rattle.demands.proofs.Demand3.Invariant.{Reached, current_in}
use Rattle.written_machine.specs.Reading.{written_reach, written_question}

-- two different rows
abbrev pub Differ : Object → Object → Type 0
Differ x y = x ≡ y → ⊥

-- what holds from the opening on
pub record Along (table : List Object) (s : State) (changes : ℕ) : Type 0 where
  pub complete : Table s.n table
  pub attributes : (eqb s.n 0 || ltb most_attributes s.n) ≡ false
  pub lengths : (bad_length most_objects s.lent.rows || (bad_length most_implications s.lent.list || bad_length most_implications s.lent.background)) ≡ false
  pub background : s.background ≡ []
  -- the rows are rows of the table, each filed once, and the table agrees with the list
  pub rows : All (λ o. Memᴰ o table) s.rows
  pub different : Pairwise Differ s.rows
  pub list : All (AgreesImplication table) s.list
  pub row_places : length s.rows ≤ s.lent.rows / 2
  pub list_places : length s.list ≤ s.lent.list / 2
  -- every change goes on to a later set
  pub counts : changes ≤ rank s.n s.current
  pub reached : Reached s

-- ---- what the checks test

pub or-none : (a b : Bool) → a ≡ false → b ≡ false → (a || b) ≡ false
or-none a b e f = rw (e, f) refl

-- marks inside M, and implications over M, are familiar
pub in-familiar : (n : ℕ) (o : Object) → InM n o → strange_object n o ≡ false
unfolding strange
in-familiar n o h = or-none _ _ (ap not (sub-inside h.yes_marks)) (ap not (sub-inside h.no_marks))

over-familiar : (n : ℕ) (r : Implication ℕ) → Over words (full n) r → strange_implication n r ≡ false
unfolding strange
over-familiar n r h = or-none _ _ (ap not (sub-inside h.premise)) (ap not (sub-inside h.conclusion))

-- a table agrees with its own rows
pub own_row : (table : List Object) (o : Object) → Memᴰ o table → AgreesObject table o
own_row table o m = record { by = o; member = m; extends = record { yes_marks = sub_refl _; no_marks = sub_refl _ } }

module _ (table : List Object) (s : State) (changes : ℕ) (a : Along table s changes) where
  -- the marks of a row of the table lie inside M
  pub row_in : (o : Object) → Memᴰ o table → InM s.n o
  row_in o m =
      let c = a.complete o m in
      record { yes_marks = rw (← c.whole) (or_left o.yes_marks o.no_marks); no_marks = rw (← c.whole) (or_right o.yes_marks o.no_marks) }

  -- the table agrees with the implications in force
  pub agrees-force : All (AgreesImplication table) (force s)
  agrees-force =
      all_append s.background s.list (subst (λ b. All (AgreesImplication table) b) (sym a.background) (all_nil _)) a.list

  -- so that no row of the table contradicts them
  pub row-consistent : (o : Object) → Memᴰ o table → contradicts (force s) o ≡ false
  row-consistent o m = no-contradiction s.n table (force s) o a.complete a.reached.over agrees-force (own_row table o m)

  -- ---- by written marks

  pub few-attributes : s.n ≤ most_attributes
  few-attributes = ltb-false _ _ (or-false (eqb s.n 0) (ltb most_attributes s.n) a.attributes).1

  settled : (o : Object) → Memᴰ o table → Settled s.n (force s) o
  settled o m = record { complete = a.complete o m; agrees = row-consistent o m }

  pub same-refutes : (o : Object) → Memᴰ o table → (r : Implication ℕ) → refutes (force s) o r ≡ refutes_written o r
  same-refutes o m r = refutes-written s.n few-attributes (force s) a.reached.over o (settled o m) r

  pub same-reach : reach_of s ≡ written_reach s
  same-reach = reach-written s.n few-attributes (force s) a.reached.over s.rows (λ o m. settled o (a.rows o m)) s.n s.current

  pub same-question : question s ≡ written_question s
  same-question = ap (λ x. implication s.current (without x s.current)) same-reach

  -- ---- the checks

  -- nothing has an attribute outside M, and the current set is closed
  familiar : outside_m s [] ≡ false
  unfolding outside_m
  familiar =
      or-none _ _ (all-anywhere _ s.rows (λ o m. in-familiar s.n o (row_in o (a.rows o m))))
      (or-none _ _ (all-anywhere _ (force s ++ []) (λ r m. over-familiar s.n r (over r m))) (ap not (sub-inside (current_in s a.reached))))
    where
      over : All (Over words (full s.n)) (force s ++ [])
      over = subst (λ l. All (Over words (full s.n)) l) (sym (append-nil (force s))) a.reached.over

  closed : closure (force s) s.current ≡ s.current
  closed =
      let here = a.reached.explored.here in
      closed-closure (force s) (all_append s.background s.list here.base.closed here.closed)

  all-passed : Passed (session_checks s [])
  unfolding session_checks
  all-passed =
      let places = or-none _ _ (le-ltb _ _ a.row_places) (le-ltb _ _ a.list_places) in
      let once = all-anywhere _ s.rows (λ o m. apart-marked o (a.complete o (a.rows o m)).apart) in
      let consistent = all-anywhere _ s.rows a.reached.consistent in
      (a.attributes, (a.lengths, (places, (familiar, (once, (consistent, (ap not (eq-eqb _ _ closed), tt)))))))

-- the checks of a session pass
pub session-passes : (table : List Object) (s : State) (changes : ℕ) → Along table s changes → first_failing (session_checks s []) ≡ none
session-passes table s changes a = none-failing (session_checks s []) (all-passed table s changes a)
