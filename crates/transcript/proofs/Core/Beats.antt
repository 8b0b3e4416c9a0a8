-- A beat of an interview of a complete table is the beat below the checks (`core-beat`). A row that refutes the question was not
-- filed before (`row_new`), so that fewer rows are filed than the table has (`rows-fewer`).
use Rattle.std.specs.Prelude.{◌≡◌, Bool, true, false, length, get_or, ltb, leb}
use Rattle.std.proofs.Math.Path.{refl, sym, ap}
use Rattle.std.proofs.Common.{◌∙◌, subst, arith, length-append, pow_mono}
use Rattle.std.proofs.Math.Bool.{not}
use Rattle.std.proofs.lemmas.Bool.{false≢true}
use mathlib.Core.List.{List, [], ◌∷◌, ◌++◌, Memᴰ, append_assoc}
use Prim.Native.Nat.{ℕ, zero, suc, ◌+◌, ◌/◌, ◌^◌, ◌≤◌, ◌<◌}
use borrow.Author.Tests.{eq-eqb, ne_eqb, ltb-true, ltb-false}
use Rattle.theory.specs.Lists.{All, Pairwise}
use Rattle.theory.proofs.Lists.Laws.{all_snoc, pairwise_map, pairwise-snoc, pigeonhole}
use Rattle.theory.specs.Implications.{Implication, Over}
use Rattle.attribute_set.specs.Sets.{full}
use Rattle.attribute_set.proofs.Sets.Laws.{sub_refl, apart-sub, without_sub}
use Rattle.attribute_set.proofs.Lectic.Rank.{rank, rank_lt, rank-before}
use Rattle.attribute_set.proofs.Words.{words}
use Rattle.next_set.specs.Next.{next}
use Rattle.next_set.proofs.Next.Laws.{next-is}
use Rattle.context.proofs.Places.Laws.{lowest-at, none-lowest, all-anywhere}
use Rattle.context.specs.Objects.{Object, object, refutes, refutes_written, first_written, contradicts}
use Rattle.context.proofs.Objects.Laws.{spares, apart-marked}
use Rattle.reach.proofs.Reach.Laws.{reach-apart}
use Rattle.context.specs.Tables.{AgreesImplication}
use Rattle.context.proofs.Tables.Laws.{no-contradiction}
use Rattle.machine.specs.Checks.{State, check, force, reach_of, question, with_question, first_failing, session_checks, yes_checks, test_checks, filing_checks, no_checks}
use Rattle.machine.proofs.Checks.Laws.{Stands, passed, failing-nothing, failing-here, failing-later, failing-append}
use Rattle.machine.specs.Machine.{Call, step, accept, reject, taken, turn, after_move, after_yes, after_filing, performed, checks_of, perform}
use Rattle.machine.proofs.Machine.Laws.{perform-refused, perform-accepted, step-cases}
use Rattle.demands.proofs.Facts.Laws.{standing-question}
use Rattle.demands.proofs.Demand3.Invariant.{with-over}
use Rattle.output_lines.specs.Lines.{yes_line, no_line, list_lines}
use Rattle.closing_lines.specs.Closing.{end_line, refusal_line}
use Rattle.transcript.specs.Output.{Beat, more, last, replied, answered, stepped, beat}
use Rattle.transcript.specs.Core.{counted, no_place_refusal, core_no, core_yes, core_reply, core_beat}
use Rattle.transcript.specs.Core.Along.{Differ, Along, in-familiar, or-none, own_row, row_in, agrees-force, row-consistent, few-attributes, same-refutes, same-reach, same-question, session-passes}

-- ---- the row that refutes

at-member : (l : List Object) (i : ℕ) (d : Object) → i < length l → Memᴰ (get_or l i d) l
at-member [] i d h = absurd (omega arith)
at-member (o ∷ l) zero d h = Memᴰ.head refl
at-member (o ∷ l) (suc i) d h = Memᴰ.tail (at-member l i d (omega arith))

-- a row of the table that refutes q by its own marks
pub record Refuting (table : List Object) (q : Implication ℕ) (o : Object) : Type 0 where
  pub member : Memᴰ o table
  pub refutes : refutes_written o q ≡ true

module _ (table : List Object) (q : Implication ℕ) where
  pub row-refutes : ltb (first_written table q) (length table) ≡ true → Refuting table q (get_or table (first_written table q) (object 0 0))
  unfolding first_written
  row-refutes e =
      let l = ltb-true _ _ e in
      record { member = at-member table _ _ l; refutes = (lowest-at _ table (object 0 0) l).0 }

  pub none-refutes : ltb (first_written table q) (length table) ≡ false → AgreesImplication table q
  unfolding first_written
  none-refutes e = none-lowest _ table (ltb-false _ _ e)

-- a reply is a no with a row that refutes, or a yes that the table agrees with
pub reply-cases : (table : List Object) (s : State) (changes : ℕ) (q : Implication ℕ) (P : Beat → Type 0)
    → ((number : ℕ) (o : Object) → Refuting table q o → P (core_no s changes q number o)) → (AgreesImplication table q → P (core_yes s changes q))
    → P (core_reply table s changes q)
unfolding core_reply
reply-cases table s changes q P refuted spared = go (ltb row (length table)) refl
  where
    row : ℕ
    row = first_written table q

    o : Object
    o = get_or table row (object 0 0)

    go : (b : Bool) → ltb row (length table) ≡ b → P (elim b [ true ↦ core_no s changes q (row + 1) o | false ↦ core_yes s changes q ])
    go true e = refuted (row + 1) o (row-refutes table q e)
    go false e = spared (none-refutes table q e)

-- rows that differ, all of a table, are no more than the table has
few-different : (l table : List Object) → Pairwise Differ l → All (λ o. Memᴰ o table) l → length l ≤ length table
few-different l table d h =
    pigeonhole ◌≡◌ l table (pairwise_map l (λ x y mx my n z e f. n (e ∙ sym f)) d) (λ x m. (x, h x m, refl))

-- no row that is filed refutes the question: the reach leaves out what a row lacks that has the premise
filed-spares : (s : State) → All (λ o. refutes (force s) o (question s) ≡ false) s.rows
filed-spares s o m =
    spares (force s) o (question s)
    (λ h. apart-sub (without_sub _ _) (sub_refl _) (reach-apart (force s) s.n s.rows s.current o m h))

module _ (table : List Object) (s : State) (o : Object) (r : Refuting table (question s) o) where
  pub row_new : (changes : ℕ) → Along table s changes → All (λ x. Differ x o) s.rows
  row_new changes a x m e =
      let same = same-refutes table s changes a x (a.rows x m) (question s) in
      false≢true (sym (filed-spares s x m) ∙ same ∙ ap (λ y. refutes_written y (question s)) e ∙ r.refutes)

  -- with the new row they are still rows of the table that differ
  pub rows-fewer : (changes : ℕ) → Along table s changes → length s.rows < length table
  rows-fewer changes a =
      let different = pairwise-snoc Differ s.rows o a.different (row_new changes a) in
      let few = few-different (s.rows ++ (o ∷ [])) table different (all_snoc s.rows o a.rows r.member) in
      omega (arith, few, length-append s.rows (o ∷ []))

-- ---- the count of changes

module _ (table : List Object) (s : State) (changes : ℕ) (a : Along table s changes) where
  -- the next set's place counts one change more
  pub later-counts : (rs : List (Implication ℕ)) → All (Over words (full s.n)) rs → (s.current ≡ full s.n → ⊥)
      → suc changes ≤ rank s.n (next rs s.n s.current)
  later-counts rs over open' =
      let t = next-is rs s.n s.current over a.reached.explored.here.base.inside open' in
      omega (arith, a.counts, rank-before s.n t.later t.inside)

  -- and a word holds every place
  pub counted_is : (x : ℕ) → suc changes ≤ rank s.n x → counted changes ≡ suc changes
  counted_is x h =
      let small : 2 ^ s.n ≤ 2 ^ 64 = pow_mono (few-attributes table s changes a) in
      omega (arith, small, rank_lt s.n x)

  -- ---- a reply

  -- a reply for which only the check for places is left is refused where there is none, and taken where there is one
  replied-core : (c : Call) (after : State) (none_left : Bool) (line : List ℕ) (count count' : ℕ) → count ≡ count'
      → first_failing (checks_of s c) ≡ first_failing (check 12 none_left 0 ∷ []) → performed s c ≡ turn taken after
      → replied line count (perform s c).answer (perform s c).after
      ≡ elim none_left [ true ↦ last (line ++ refusal_line no_place_refusal) | false ↦ more line after count' ]
  replied-core c after true line count count' k e p =
      rw (perform-refused s c no_place_refusal (e ∙ failing-here (check 12 true 0) [] refl)) refl
  replied-core c after false line count count' k e p =
      rw (perform-accepted s c (e ∙ failing-later (check 12 false 0) [] refl ∙ failing-nothing), p) (ap (more line after) k)

  module _ (t : Stands s) where
    -- the checks of a no with a row of the table that refutes
    no-checks : (o : Object) → Refuting table (question s) o
        → first_failing (checks_of s (reject o)) ≡ first_failing (check 12 (leb (s.lent.rows / 2) (length s.rows)) 0 ∷ [])
    unfolding checks_of test_checks filing_checks
    no-checks o r =
        let once = apart-marked o (a.complete o r.member).apart in
        let fitting = or-none _ _ (in-familiar s.n o (row_in table s changes a o r.member)) once in
        let refuting = ap not (same-refutes table s changes a o r.member (question s) ∙ r.refutes) in
        failing-append (session_checks s []) (no_checks s o) (passed _ (session-passes table s changes a))
        ∙ failing-later _ _ (standing-question s t) ∙ failing-later _ _ fitting ∙ failing-later _ _ refuting
        ∙ failing-later _ _ fitting ∙ failing-later _ _ (row-consistent table s changes a o r.member)

    core-no : (o : Object) (number : ℕ) → Refuting table (question s) o
        → replied (no_line s.n (question s) number) changes (perform s (reject o)).answer (perform s (reject o)).after
        ≡ core_no s changes (question s) number o
    unfolding performed core_no
    core-no o number r = replied-core (reject o) (after_filing s o) _ _ changes changes refl (no-checks o r) refl

    -- where the table agrees with the question no row of it contradicts, with the question in the list
    pub yes-consistent : AgreesImplication table (question s) → (o : Object) → Memᴰ o table → contradicts (with_question s) o ≡ false
    yes-consistent agrees o m =
        no-contradiction s.n table (with_question s) o a.complete (with-over s a.reached)
        (subst (λ l. All (AgreesImplication table) l) (append_assoc s.background s.list (question s ∷ []))
        (all_snoc (force s) (question s) (agrees-force table s changes a) agrees)) (own_row table o m)

    -- the checks of a yes where the table agrees
    yes-checks : AgreesImplication table (question s)
        → first_failing (checks_of s accept) ≡ first_failing (check 12 (leb (s.lent.list / 2) (length s.list)) 0 ∷ [])
    unfolding checks_of yes_checks
    yes-checks agrees =
        failing-append (session_checks s []) (yes_checks s) (passed _ (session-passes table s changes a))
        ∙ failing-later _ _ (standing-question s t)
        ∙ failing-later _ _ (all-anywhere _ s.rows (λ o m. yes-consistent agrees o (a.rows o m)))

    core-yes : AgreesImplication table (question s)
        → replied (yes_line s.n (question s)) (suc changes) (perform s accept).answer (perform s accept).after
        ≡ core_yes s changes (question s)
    unfolding performed core_yes
    core-yes agrees =
        let count = sym (counted_is _ (later-counts (with_question s) (with-over s a.reached) t.below)) in
        replied-core accept (after_yes s) _ _ (suc changes) (counted changes) count (yes-checks agrees) refl

    core-answer : answered table s changes (question s) ≡ core_reply table s changes (question s)
    unfolding answered core_reply
    core-answer = go (ltb (first_written table (question s)) (length table)) refl
      where
        row : ℕ
        row = first_written table (question s)

        o : Object
        o = get_or table row (object 0 0)

        go : (b : Bool) → ltb row (length table) ≡ b
            → ◌≡◌ {A = Beat} (elim b [
              | true ↦ replied (no_line s.n (question s) (row + 1)) changes (perform s (reject o)).answer (perform s (reject o)).after
              | false ↦ replied (yes_line s.n (question s)) (suc changes) (perform s accept).answer (perform s accept).after
            ]) (elim b [ true ↦ core_no s changes (question s) (row + 1) o | false ↦ core_yes s changes (question s) ])
        go true e = core-no o (row + 1) (row-refutes table (question s) e)
        go false e = core-yes (none-refutes table (question s) e)

-- ---- the beat

-- the beat below the checks, by cases of a step
module _ (table : List Object) (s : State) (changes : ℕ) where
  pub core-last : s.current ≡ full s.n
      → core_beat table s changes ≡ last (list_lines s.n s.list ++ end_line (length s.list) (length s.rows) changes)
  unfolding core_beat
  core-last e = rw (eq-eqb _ _ e, core_beat) refl

  module _ (a : Along table s changes) where
    pub core-moved : (s.current ≡ full s.n → ⊥) → reach_of s ≡ s.current
        → core_beat table s changes ≡ more [] (after_move s) (counted changes)
    unfolding core_beat
    core-moved ne e = rw (ne_eqb _ _ ne, core_beat) (rw (eq-eqb _ _ (sym (same-reach table s changes a) ∙ e)) refl)

    pub core-asked : (s.current ≡ full s.n → ⊥) → (reach_of s ≡ s.current → ⊥) → core_beat table s changes ≡ core_reply table s changes (question s)
    unfolding core_beat
    core-asked ne d =
        rw (ne_eqb _ _ ne, core_beat)
        (rw (ne_eqb _ _ (λ e. d (same-reach table s changes a ∙ e))) (ap (core_reply table s changes) (sym (same-question table s changes a))))

pub core-beat : (table : List Object) (s : State) (changes : ℕ) → Along table s changes → beat table s changes ≡ core_beat table s changes
unfolding beat performed checks_of
core-beat table s changes a =
    rw (perform-accepted s step (session-passes table s changes a))
    (step-cases s (λ t. stepped table s changes t.answer t.after ≡ core_beat table s changes)
    (λ e. sym (core-last table s changes e))
    (λ ne e.
    let count = counted_is table s changes a _ (later-counts table s changes a (force s) a.reached.over ne) in
    ap (more [] (after_move s)) (sym count) ∙ sym (core-moved table s changes a ne e))
    (λ ne d. core-answer table s changes a (record { below = ne; differs = d }) ∙ sym (core-asked table s changes a ne d)))
