-- The interview of a complete table keeps what holds along it: from its opening (`opened-along`), beat by beat (`core-along`).
use Rattle.std.proofs.Math.Path.{◌≡◌, refl}
use Rattle.std.proofs.Common.{sym, ◌∙◌, subst, arith, length-append, leb-false}
use Rattle.std.specs.Prelude.{Bool, List, [], ◌∷◌, ◌++◌, ℕ, ◌+◌, ◌/◌, length}
use Rattle.std.proofs.Math.Bool.{true, false}
use Rattle.std.proofs.Math.Dec.{leb}
use Rattle.theory.proofs.Lists.Laws.{all_nil, all_snoc, pairwise-snoc}
use Rattle.attribute_set.specs.Sets.{full}
use Rattle.context.specs.Objects.{Object}
use Rattle.context.specs.Tables.{Table, AgreesImplication}
use Rattle.machine.specs.Checks.{Lent, State, force, reach_of, question, with_question, session_checks}
use Rattle.machine.proofs.Checks.Laws.{Stands, passed}
use Rattle.machine.specs.Machine.{after_move, after_yes, after_filing, opening, opened}
use Rattle.machine.proofs.Machine.Laws.{step-cases, opened-is}
use Rattle.demands.proofs.Demand3.Invariant.{Reached, with-over, moved-reached, yes-reached, filed-reached, opened-reached}
use Rattle.output_lines.specs.Lines.{yes_line, no_line}
use Rattle.closing_lines.specs.Closing.{refusal_line}
use Rattle.transcript.specs.Output.{Beat, more, last}
use Rattle.transcript.specs.Core.{counted, no_place_refusal, core_no, core_yes, core_reply, core_beat}
use Rattle.transcript.specs.Core.Along.{Differ, Along, row-consistent}
use Rattle.transcript.proofs.Core.Beats.{Refuting, reply-cases, row_new, later-counts, counted_is, yes-consistent, core-last, core-moved, core-asked}

-- what a beat that goes on keeps: the number of attributes, the places lent, and what holds along the interview
pub record BeatKeeps (table : List Object) (before : State) (s : State) (changes : ℕ) : Type 0 where
  pub same_n : s.n ≡ before.n
  pub same_lent : s.lent ≡ before.lent
  pub along : Along table s changes

module _ (table : List Object) (s : State) (changes : ℕ) (a : Along table s changes) where
  moved-along : (s.current ≡ full s.n → ⊥) → reach_of s ≡ s.current
      → Along table (after_move s) (counted changes)
  moved-along ne e =
      let later = later-counts table s changes a (force s) a.reached.over ne in
      record {
        complete = a.complete;
        attributes = a.attributes;
        lengths = a.lengths;
        background = a.background;
        rows = a.rows;
        different = a.different;
        list = a.list;
        row_places = a.row_places;
        list_places = a.list_places;
        counts = omega (arith, later, counted_is table s changes a _ later);
        reached = moved-reached s a.reached ne e;
      }

  no-along : (o : Object) → Refuting table (question s) o → leb (s.lent.rows / 2) (length s.rows) ≡ false → Along table (after_filing s o) changes
  no-along o r f = record {
    complete = a.complete;
    attributes = a.attributes;
    lengths = a.lengths;
    background = a.background;
    rows = all_snoc s.rows o a.rows r.member;
    different = pairwise-snoc Differ s.rows o a.different (row_new table s o r changes a);
    list = a.list;
    row_places = omega (arith, leb-false (s.lent.rows / 2) (length s.rows) f, length-append s.rows (o ∷ []));
    list_places = a.list_places;
    counts = a.counts;
    reached = filed-reached s a.reached o (row-consistent table s changes a o r.member);
  }

  yes-along : Stands s → AgreesImplication table (question s) → leb (s.lent.list / 2) (length s.list) ≡ false
      → Along table (after_yes s) (counted changes)
  yes-along t agrees f =
      let later = later-counts table s changes a (with_question s) (with-over s a.reached) t.below in
      record {
        complete = a.complete;
        attributes = a.attributes;
        lengths = a.lengths;
        background = a.background;
        rows = a.rows;
        different = a.different;
        list = all_snoc s.list (question s) a.list agrees;
        row_places = a.row_places;
        list_places = omega (arith, leb-false (s.lent.list / 2) (length s.list) f, length-append s.list (question s ∷ []));
        counts = omega (arith, later, counted_is table s changes a _ later);
        reached = yes-reached s a.reached t (λ o m. yes-consistent table s changes a t agrees o (a.rows o m));
      }

  module _ (line : List ℕ) (s' : State) (c' : ℕ) where
    not_more : (l : List ℕ) → last l ≡ more line s' c' → BeatKeeps table s s' c'
    not_more l e = absurd (let z : ◌≡◌ {A = ℕ} 0 1 = cc in omega arith)

    goes_to : (x : State) (l : List ℕ) (c : ℕ) → x.n ≡ s.n → x.lent ≡ s.lent → Along table x c
        → more l x c ≡ more line s' c' → BeatKeeps table s s' c'
    goes_to x l c k i h e =
        let p : x ≡ s' = cc in
        let q : c ≡ c' = cc in
        subst (λ y. BeatKeeps table s y c') p (subst (λ y. BeatKeeps table s x y) q (record { same_n = k; same_lent = i; along = h }))

    no-kept : (number : ℕ) (o : Object) → Refuting table (question s) o → core_no s changes (question s) number o ≡ more line s' c' → BeatKeeps table s s' c'
    unfolding core_no
    no-kept number o r = go (leb (s.lent.rows / 2) (length s.rows)) refl
      where
        go : (b : Bool) → leb (s.lent.rows / 2) (length s.rows) ≡ b
            → ◌≡◌ {A = Beat} (elim b [
              | true ↦ last (no_line s.n (question s) number ++ refusal_line no_place_refusal)
              | false ↦ more (no_line s.n (question s) number) (after_filing s o) changes
            ]) (more line s' c') → BeatKeeps table s s' c'
        go true f e = not_more _ e
        go false f e = goes_to (after_filing s o) _ changes refl refl (no-along o r f) e

    yes-kept : Stands s → AgreesImplication table (question s) → core_yes s changes (question s) ≡ more line s' c' → BeatKeeps table s s' c'
    unfolding core_yes
    yes-kept t agrees = go (leb (s.lent.list / 2) (length s.list)) refl
      where
        go : (b : Bool) → leb (s.lent.list / 2) (length s.list) ≡ b
            → ◌≡◌ {A = Beat} (elim b [
              | true ↦ last (yes_line s.n (question s) ++ refusal_line no_place_refusal)
              | false ↦ more (yes_line s.n (question s)) (after_yes s) (counted changes)
            ]) (more line s' c') → BeatKeeps table s s' c'
        go true f e = not_more _ e
        go false f e = goes_to (after_yes s) _ (counted changes) refl refl (yes-along t agrees f) e

    reply-kept : Stands s → core_reply table s changes (question s) ≡ more line s' c' → BeatKeeps table s s' c'
    reply-kept t = reply-cases table s changes (question s) (λ b. b ≡ more line s' c' → BeatKeeps table s s' c') no-kept (yes-kept t)

    pub core-kept : core_beat table s changes ≡ more line s' c' → BeatKeeps table s s' c'
    core-kept k =
        step-cases s (λ t. BeatKeeps table s s' c')
        (λ e. not_more _ (sym (core-last table s changes e) ∙ k))
        (λ ne e. goes_to _ _ _ refl refl (moved-along ne e) (sym (core-moved table s changes a ne e) ∙ k))
        (λ ne d. reply-kept (record { below = ne; differs = d }) (sym (core-asked table s changes a ne d) ∙ k))

pub core-along : (table : List Object) (s : State) (changes : ℕ) → Along table s changes
    → (line : List ℕ) (s' : State) (c' : ℕ) → core_beat table s changes ≡ more line s' c' → Along table s' c'
core-along table s changes a line s' c' e = (core-kept table s changes a line s' c' e).along

pub opened-along : (table : List Object) (n : ℕ) (lent : Lent) (s : State) → Table n table → opening n lent [] [] ≡ opened s → Along table s 0
unfolding session_checks
opened-along table n lent s complete e =
    let t = opened-is n lent [] [] s e in
    let p = passed _ t.1 in
    subst (λ x. Along table x 0) (sym t.0) (record {
      complete = complete;
      attributes = p.0;
      lengths = p.1.0;
      background = refl;
      rows = all_nil _;
      different = tt;
      list = all_nil _;
      row_places = omega arith;
      list_places = omega arith;
      counts = omega arith;
      reached = subst (λ x. Reached x) t.0 (opened-reached n lent [] [] s e);
    })
