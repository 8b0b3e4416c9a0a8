-- The checks both ways: checks 1 to 7 pass just where `Fine` holds and the rule asked about is over M (`checks-fine`, `fine-checks`);
-- those of a yes just where `YesFits` holds (`checks-yes`, `yes-checks`), those of a test just where `TestFits` does (`checks-test`,
-- `test-checks`), those of a filing just where `FilingFits` does (`checks-filing`, `filing-checks`), and a no fits just where both do
-- (`both-fit`, `fits_both`). So a reply is taken just where it fits (`yes_taken`, `taken_yes`, `no_taken`, `taken-no`), a test answers that the
-- row refutes just where it fits (`test-refuting`, `refuting-test`; `test-ten`), and a filing is taken just where it fits (`filing-taken`,
-- `taken-filing`). The same of a filling (`checks-fill`, `fill-checks`; `fill-taken`, `taken-fill`), which with
-- marks that are known is taken and changes nothing (`fill_known`).
use Rattle.std.specs.Prelude.{◌≡◌, refl, Bool, true, false, ◌||◌, ℕ, ◌/◌, ◌%◌, ◌<◌, length, eqb, ltb}
use Rattle.std.proofs.Common.{sym, ◌∙◌, arith}
use Rattle.std.proofs.Math.Path.{ap, subst}
use Rattle.std.proofs.Math.Bool.{not}
use mathlib.Core.List.{List, [], ◌++◌}
use Rattle.std.proofs.Math.Option.{none}
use borrow.Author.Tests.{eqb-true, eqb-false, eq-eqb, not-false, ltb-false, le-ltb, leb-false, lt-leb, ne_eqb}
use Rattle.theory.specs.Lists.{All}
use Rattle.theory.proofs.Lists.Laws.{all_nil, all_append, all_drop}
use Rattle.theory.specs.Implications.{Implication, Over}
use Rattle.attribute_set.specs.Sets.{Sub, Apart, inside, full}
use Rattle.attribute_set.proofs.Sets.Laws.{sub_refl, sub_trans, sub-inside, apart-sub}
use Rattle.attribute_set.proofs.Words.{words}
use Rattle.implication.specs.Closure.{closure}
use Rattle.context.specs.Places.{anywhere}
use Rattle.context.proofs.Places.Laws.{anywhere-false, all-anywhere}
use Rattle.context.specs.Objects.{Object, refutes}
use Rattle.context.proofs.Objects.Laws.{marked-apart, apart-marked, contradicts-apart, apart-contradicts}
use Rattle.context.specs.Filling.{joined, object_at}
use Rattle.context.proofs.Filling.Laws.{joined-known, unreversed, not-reversing, filled-known, object-member}
use Rattle.session.specs.Refusals.{refusal}
use Rattle.session.specs.Limits.{most_objects, most_implications, bad_length}
use Rattle.machine.specs.Checks.{State, first_failing, strange, strange_object, strange_implication, outside_m, session_checks, yes_checks, bad_row, test_checks, filing_checks, fill_checks, no_checks, force, question, question_stands, with_question, whole, tight, open-question}
use Rattle.machine.proofs.Checks.Laws.{or-false, passed, none-failing, failing-here, failing-later, failing-append, passed-append, no_both, InM, valid, familiar-object, familiar-implication, standing-cases, Stands, stands}
use Rattle.machine.specs.Machine.{Call, accept, reject, test, file, fill, taken, refuting, refused, turn, performed, checks_of, perform}
use Rattle.machine.proofs.Machine.Laws.{perform-accepted, perform-refused, Answers, answered-passing}
use Rattle.demands.specs.Facts.{Places, Fine, YesFits, TestFits, FilingFits, FillFits, NoFits}

or-both : (a b : Bool) → a ≡ false → b ≡ false → (a || b) ≡ false
or-both false b e f = f
or-both true b e f = e

-- ---- lengths and sets

length-places : (most words : ℕ) → bad_length most words ≡ false → Places most words
unfolding bad_length
length-places most words e =
    let t = or-false (not (eqb (words % 2) 0)) _ e in
    record { even = eqb-true _ _ (not-false _ t.0); within = ltb-false _ _ t.1 }

places-length : (most words : ℕ) → Places most words → bad_length most words ≡ false
unfolding bad_length
places-length most words p = or-both _ _ (ap not (eq-eqb _ _ p.even)) (le-ltb _ _ p.within)

in-object : (n : ℕ) (o : Object) → InM n o → strange_object n o ≡ false
unfolding strange
in-object n o i = or-both _ _ (ap not (sub-inside i.yes_marks)) (ap not (sub-inside i.no_marks))

over-implication : (n : ℕ) (r : Implication ℕ) → Over words (full n) r → strange_implication n r ≡ false
unfolding strange
over-implication n r h = or-both _ _ (ap not (sub-inside h.premise)) (ap not (sub-inside h.conclusion))

-- ---- checks 1 to 7

module _ (s : State) (asked : List (Implication ℕ)) where
  pub checks-fine : first_failing (session_checks s asked) ≡ none → Fine s × All (Over words (full s.n)) asked
  unfolding session_checks outside_m
  checks-fine e =
      let p = passed (session_checks s asked) e in
      let one = or-false (eqb s.n 0) _ p.0 in
      let two = or-false (bad_length most_objects s.lent.rows) _ p.1.0 in
      let lists = or-false (bad_length most_implications s.lent.list) _ two.1 in
      let three = or-false (ltb (s.lent.rows / 2) (length s.rows)) _ p.1.1.0 in
      let four = or-false (anywhere (strange_object s.n) s.rows) _ p.1.1.1.0 in
      let rest = or-false (anywhere (strange_implication s.n) (force s ++ asked)) _ four.1 in
      let v = valid s asked p in
      let over : All (Over words (full s.n)) (force s ++ asked) =
      λ r m. familiar-implication s.n r (anywhere-false _ (force s ++ asked) rest.0 r m) in (
        record {
          some_attribute = omega (arith, eqb-false s.n 0 one.0);
          attributes = ltb-false _ _ one.1;
          row_words = length-places most_objects _ two.0;
          list_words = length-places most_implications _ lists.0;
          background_words = length-places most_implications _ lists.1;
          row_places = ltb-false _ _ three.0;
          list_places = ltb-false _ _ three.1;
          rows_in = λ o m. familiar-object s.n o (anywhere-false _ s.rows four.0 o m);
          rules_in = v.over;
          current_in = v.current;
          once = λ o m. marked-apart o (anywhere-false _ s.rows p.1.1.1.1.0 o m);
          consistent = λ o m. contradicts-apart (force s) o (anywhere-false _ s.rows p.1.1.1.1.1.0 o m);
          closed = eqb-true _ _ (not-false _ p.1.1.1.1.1.1.0);
        },
        all_drop (force s) asked over,
      )

  pub fine-checks : Fine s → All (Over words (full s.n)) asked → first_failing (session_checks s asked) ≡ none
  unfolding session_checks outside_m
  fine-checks f over =
      let one = or-both _ _ (ne_eqb s.n 0 (λ e. omega (arith, f.some_attribute, e))) (le-ltb _ _ f.attributes) in
      let two = or-both _ _ (places-length most_objects _ f.row_words)
      (or-both _ _ (places-length most_implications _ f.list_words) (places-length most_implications _ f.background_words)) in
      let three = or-both _ _ (le-ltb _ _ f.row_places) (le-ltb _ _ f.list_places) in
      let four = or-both _ _ (all-anywhere _ s.rows (λ o m. in-object s.n o (f.rows_in o m)))
      (or-both _ _ (all-anywhere _ (force s ++ asked) (λ r m. over-implication s.n r (all_append (force s) asked f.rules_in over r m)))
      (ap not (sub-inside f.current_in))) in
      let five = all-anywhere _ s.rows (λ o m. apart-marked o (f.once o m)) in
      let six = all-anywhere _ s.rows (λ o m. apart-contradicts (force s) o (f.consistent o m)) in
      none-failing (session_checks s asked) (one, (two, (three, (four, (five, (six, (ap not (eq-eqb _ _ f.closed), tt)))))))

-- ---- the checks of a reply, a test and a filing

-- where a question stands check 8 passes
pub standing-question : (s : State) → Stands s → not (question_stands s) ≡ false
unfolding question_stands
standing-question s t =
    standing-cases s (λ x. not (elim x as (λ y. Bool) [ whole ↦ false | tight ↦ false | open-question ↦ true ]) ≡ false)
    (λ e. absurd (t.below e)) (λ n e. absurd (t.differs e)) (λ n d. refl)

module _ (s : State) where
  pub checks-yes : first_failing (yes_checks s) ≡ none → YesFits s
  unfolding yes_checks
  checks-yes e =
      let p = passed (yes_checks s) e in
      record {
        stands = stands s (not-false _ p.0);
        consistent = λ o m. contradicts-apart (with_question s) o (anywhere-false _ s.rows p.1.0 o m);
        place = leb-false _ _ p.1.1.0;
      }

  pub yes-checks : YesFits s → first_failing (yes_checks s) ≡ none
  unfolding yes_checks
  yes-checks f =
      let eleven = all-anywhere _ s.rows (λ o m. apart-contradicts (with_question s) o (f.consistent o m)) in
      none-failing (yes_checks s) (standing-question s f.stands, (eleven, (lt-leb _ _ f.place, tt)))

  module _ (o : Object) where
    pub checks-test : first_failing (test_checks s o) ≡ none → TestFits s o
    unfolding test_checks
    checks-test e =
        let p = passed (test_checks s o) e in
        let nine = or-false (strange_object s.n o) _ p.1.0 in
        record {
          stands = stands s (not-false _ p.0);
          inside = familiar-object s.n o nine.0;
          once = marked-apart o nine.1;
          refuting = not-false _ p.1.1.0;
        }

    good-row : InM s.n o → Apart o.yes_marks o.no_marks → bad_row s.n o ≡ false
    good-row i a = or-both _ _ (in-object s.n o i) (apart-marked o a)

    pub test-checks : TestFits s o → first_failing (test_checks s o) ≡ none
    unfolding test_checks
    test-checks f =
        none-failing (test_checks s o) (standing-question s f.stands, (good-row f.inside f.once, (ap not f.refuting, tt)))

    pub checks-filing : first_failing (filing_checks s o) ≡ none → FilingFits s o
    unfolding filing_checks
    checks-filing e =
        let p = passed (filing_checks s o) e in
        let nine = or-false (strange_object s.n o) _ p.0 in
        record {
          inside = familiar-object s.n o nine.0;
          once = marked-apart o nine.1;
          consistent = contradicts-apart (force s) o p.1.0;
          place = leb-false _ _ p.1.1.0;
        }

    pub filing-checks : FilingFits s o → first_failing (filing_checks s o) ≡ none
    unfolding filing_checks
    filing-checks f =
        none-failing (filing_checks s o) (good-row f.inside f.once, (apart-contradicts (force s) o f.consistent, (lt-leb _ _ f.place, tt)))

    -- of a filling of row k with the marks of o
    module _ (k : ℕ) where
      abbrev row : Object
      row = joined (object_at s.rows k) o

      pub checks-fill : first_failing (fill_checks s k o) ≡ none → FillFits s k o
      unfolding fill_checks
      checks-fill e =
          let p = passed (fill_checks s k o) e in
          let nine = or-false (strange_object s.n o) _ p.1.0 in
          let kept = unreversed (object_at s.rows k) o p.1.1.0 in
          record {
            used = leb-false _ _ p.0;
            inside = familiar-object s.n o nine.0;
            once = marked-apart o nine.1;
            yes_stays = kept.0;
            no_stays = kept.1;
            consistent = contradicts-apart (force s) row p.1.1.1.0;
          }

      pub fill-checks : FillFits s k o → first_failing (fill_checks s k o) ≡ none
      unfolding fill_checks
      fill-checks f =
          let kept = not-reversing (object_at s.rows k) o f.yes_stays f.no_stays in
          none-failing (fill_checks s k o) (lt-leb _ _ f.used, (good-row f.inside f.once, (kept, (apart-contradicts (force s) row f.consistent, tt))))

    -- a no fits where the test and the filing do
    pub both-fit : TestFits s o → FilingFits s o → NoFits s o
    both-fit t f = record {
      stands = t.stands;
      inside = t.inside;
      once = t.once;
      refuting = t.refuting;
      consistent = f.consistent;
      place = f.place;
    }

    pub fits_both : NoFits s o → TestFits s o × FilingFits s o
    fits_both f = (
      record { stands = f.stands; inside = f.inside; once = f.once; refuting = f.refuting },
      record { inside = f.inside; once = f.once; consistent = f.consistent; place = f.place },
    )

    pub no-checks : NoFits s o → first_failing (no_checks s o) ≡ none
    no-checks f =
        let t = fits_both f in
        failing-append (test_checks s o) (filing_checks s o) (passed _ (test-checks t.0)) ∙ filing-checks t.1

-- ---- an accepted reply

-- what is taken has passed its checks
taken-passed : (s : State) (c : Call) → (perform s c).answer ≡ taken → first_failing (checks_of s c) ≡ none
taken-passed s c h = answered-passing s c (subst Answers (sym h) tt)

module _ (s : State) where
  pub taken_yes : (perform s accept).answer ≡ taken → Fine s × YesFits s
  unfolding checks_of
  taken_yes h =
      let p = passed-append (session_checks s []) (yes_checks s) (taken-passed s accept h) in
      ((checks-fine s [] (none-failing _ p.0)).0, checks-yes s (none-failing _ p.1))

  pub yes_taken : Fine s → YesFits s → (perform s accept).answer ≡ taken
  unfolding checks_of performed
  yes_taken f y =
      let e = failing-append (session_checks s []) (yes_checks s) (passed _ (fine-checks s [] f (all_nil _))) ∙ yes-checks s y in
      ap (λ t. t.answer) (perform-accepted s accept e)

  module _ (o : Object) where
    pub taken-no : (perform s (reject o)).answer ≡ taken → Fine s × NoFits s o
    unfolding checks_of
    taken-no h =
        let e = taken-passed s (reject o) h in
        let both = no_both s o e in (
          (checks-fine s [] (none-failing _ (passed-append (session_checks s []) (no_checks s o) e).0)).0,
          both-fit s o (checks-test s o both.0) (checks-filing s o both.1),
        )

    pub no_taken : Fine s → NoFits s o → (perform s (reject o)).answer ≡ taken
    unfolding checks_of performed
    no_taken f y =
        let e = failing-append (session_checks s []) (no_checks s o) (passed _ (fine-checks s [] f (all_nil _))) ∙ no-checks s o y in
        ap (λ t. t.answer) (perform-accepted s (reject o) e)

    -- ---- a test

    pub refuting-test : (perform s (test o)).answer ≡ refuting → Fine s × TestFits s o
    unfolding checks_of
    refuting-test h =
        let p = passed-append (session_checks s []) (test_checks s o) (answered-passing s (test o) (subst Answers (sym h) tt)) in
        ((checks-fine s [] (none-failing _ p.0)).0, checks-test s o (none-failing _ p.1))

    pub test-refuting : Fine s → TestFits s o → (perform s (test o)).answer ≡ refuting
    unfolding checks_of performed
    test-refuting f y =
        let e = failing-append (session_checks s []) (test_checks s o) (passed _ (fine-checks s [] f (all_nil _))) ∙ test-checks s o y in
        ap (λ t. t.answer) (perform-accepted s (test o) e)

    -- where a question stands a row over M that does not refute it gets 10
    pub test-ten : Fine s → Stands s → InM s.n o → Apart o.yes_marks o.no_marks → refutes (force s) o (question s) ≡ false
        → (perform s (test o)).answer ≡ refused (refusal 10 0)
    unfolding checks_of test_checks
    test-ten f t i a spares =
        let e = failing-append (session_checks s []) (test_checks s o) (passed _ (fine-checks s [] f (all_nil _)))
        ∙ failing-later _ _ (standing-question s t) ∙ failing-later _ _ (good-row s o i a) ∙ failing-here _ _ (ap not spares) in
        ap (λ t. t.answer) (perform-refused s (test o) _ e)

    -- ---- a filing: whether a question stands, and whether the row refutes it, is not asked

    pub taken-filing : (perform s (file o)).answer ≡ taken → Fine s × FilingFits s o
    unfolding checks_of
    taken-filing h =
        let p = passed-append (session_checks s []) (filing_checks s o) (taken-passed s (file o) h) in
        ((checks-fine s [] (none-failing _ p.0)).0, checks-filing s o (none-failing _ p.1))

    pub filing-taken : Fine s → FilingFits s o → (perform s (file o)).answer ≡ taken
    unfolding checks_of performed
    filing-taken f y =
        let e = failing-append (session_checks s []) (filing_checks s o) (passed _ (fine-checks s [] f (all_nil _))) ∙ filing-checks s o y in
        ap (λ t. t.answer) (perform-accepted s (file o) e)

    -- ---- a filling of row k, in use: of a row of the opening or one filed later, and whether or not a question stands

    module _ (k : ℕ) where
      pub taken-fill : (perform s (fill k o)).answer ≡ taken → Fine s × FillFits s k o
      unfolding checks_of
      taken-fill h =
          let p = passed-append (session_checks s []) (fill_checks s k o) (taken-passed s (fill k o) h) in
          ((checks-fine s [] (none-failing _ p.0)).0, checks-fill s o k (none-failing _ p.1))

      pub fill-taken : Fine s → FillFits s k o → (perform s (fill k o)).answer ≡ taken
      unfolding checks_of performed
      fill-taken f y =
          let e = failing-append (session_checks s []) (fill_checks s k o) (passed _ (fine-checks s [] f (all_nil _))) ∙ fill-checks s o k y in
          ap (λ t. t.answer) (perform-accepted s (fill k o) e)

      -- marks that row k has may be offered again, all of them too: the filling is taken and leaves the state
      pub fill_known : Fine s → k < length s.rows → Sub o.yes_marks (object_at s.rows k).yes_marks
          → Sub o.no_marks (object_at s.rows k).no_marks → perform s (fill k o) ≡ turn taken s
      unfolding checks_of performed
      fill_known f used a b =
          let had = object-member k s.rows used in
          let once = f.once (object_at s.rows k) had in
          let same = joined-known (object_at s.rows k) o a b in
          let y : FillFits s k o = record {
            used = used;
            inside = record {
              yes_marks = sub_trans a (f.rows_in (object_at s.rows k) had).yes_marks;
              no_marks = sub_trans b (f.rows_in (object_at s.rows k) had).no_marks;
            };
            once = apart-sub a b once;
            yes_stays = apart-sub (sub_refl _) b once;
            no_stays = record { at = λ i x z. once.at i (a.at i z) x };
            consistent = subst (λ p. Apart (closure (force s) p.yes_marks) p.no_marks) (sym same) (f.consistent (object_at s.rows k) had);
          } in
          let e = failing-append (session_checks s []) (fill_checks s k o) (passed _ (fine-checks s [] f (all_nil _))) ∙ fill-checks s o k y in
          perform-accepted s (fill k o) e ∙ ap (λ l. turn taken (with_rows l)) (filled-known o k s.rows a b)
        where
          with_rows : List Object → State
          with_rows l = record { n = s.n; lent = s.lent; background = s.background; rows = l; list = s.list; current = s.current }
