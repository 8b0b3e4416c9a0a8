-- Where all rows are complete a call's answer and the state after it are those by written marks: where 1 to 7 pass, the reach is the
-- one by written marks, and so are the question and all that reads it; where one of them fails, both refuse alike.
use Rattle.std.specs.Prelude.{◌≡◌, Bool, not, ℕ, ◌/◌, ◌≤◌, length, eqb, leb}
use Rattle.std.proofs.Math.Path.{refl, ap, ap₂}
use Rattle.std.proofs.Common.{sym, ◌∙◌}
use Rattle.std.proofs.Math.Bool.{true, false}
use mathlib.Core.List.{List, [], ◌∷◌, ◌++◌, append-nil}
use Rattle.std.proofs.Math.Option.{Option, none, some}
use Rattle.theory.specs.Lists.{All}
use Rattle.theory.specs.Implications.{Implication}
use Rattle.attribute_set.specs.Sets.{full, without}
use Rattle.implication.specs.Closure.{implication}
use Rattle.context.specs.Places.{lowest, anywhere}
use Rattle.context.proofs.Places.Laws.{lowest-same}
use Rattle.context.specs.Objects.{Object, word_attributes, refutes, first_refuting, refutes_written, first_written, contradicts}
use Rattle.context.specs.Tables.{Complete}
use Rattle.session.specs.declared.Refusal.{Refusal}
use Rattle.written_marks.proofs.Written.Laws.{refutes-written, reach-written}
use Rattle.machine.specs.Checks.{State, force, reach_of, Standing, whole, tight, open-question, standing, question_stands, question, Check, check, first_failing, bad_row, session_checks, yes_checks, test_checks, filing_checks}
use Rattle.machine.proofs.Checks.Laws.{passed, failing-first, failing-behind, once-enough, Valid, valid, checked-small}
use Rattle.machine.specs.Machine.{Call, step, accept, reject, follow, refute, test, file, fill, finished, moved, asked, taken, refused, Turn, turn, after_move, agreeing, after_filing, refuted_at, perform_step, performed, checks_of, perform}
use Rattle.written_machine.specs.Reading.{written_reach, written_standing, written_stands, written_question, written_yes, written_no, written_test, written_step, written_performed, written_checks, written_perform}
use Rattle.written_machine.specs.Reading.Unchanged.{OffersComplete, Unchanged}

module _ (s : State) (complete : All (Complete s.n) s.rows) where
  -- ---- where 1 to 7 pass

  module _ (asked' : List (Implication ℕ)) (ok : first_failing (session_checks s asked') ≡ none) where
    v : Valid s
    v = valid s asked' (passed _ ok)

    most : s.n ≤ word_attributes
    most = (checked-small s asked' ok).0

    same-reach : reach_of s ≡ written_reach s
    same-reach = reach-written s.n most (force s) v.over s.rows (λ o m. record { complete = complete o m; agrees = v.consistent o m }) s.n s.current

    same-question : question s ≡ written_question s
    same-question = ap (λ x. implication s.current (without x s.current)) same-reach

    same-standing : standing s ≡ written_standing s
    unfolding standing written_standing
    same-standing = ap (λ x. elim (eqb s.current (full s.n)) as (λ y. Standing) [
      | true ↦ whole
      | false ↦ elim (eqb x s.current) [ true ↦ tight | false ↦ open-question ]
    ]) same-reach

    same-stands : question_stands s ≡ written_stands s
    unfolding question_stands written_stands
    same-stands = ap (λ x. elim x as (λ y. Bool) [ whole ↦ false | tight ↦ false | open-question ↦ true ]) same-standing

    same-yes : yes_checks s ≡ written_yes s
    unfolding yes_checks written_yes
    same-yes = ap₂ (λ b q.
        check 8 (not b) 0
        ∷ check 11 (anywhere (contradicts (s.background ++ (s.list ++ (q ∷ [])))) s.rows) (lowest (contradicts (s.background ++ (s.list ++ (q ∷ [])))) s.rows)
        ∷ check 12 (leb (s.lent.list / 2) (length s.list)) 0
        ∷ []) same-stands same-question

    same-refutes : (o : Object) → Complete s.n o → contradicts (force s) o ≡ false → (r : Implication ℕ) → refutes (force s) o r ≡ refutes_written o r
    same-refutes o whole' agrees r = refutes-written s.n most (force s) v.over o (record { complete = whole'; agrees = agrees }) r

    same_test : (o : Object) → Complete s.n o → contradicts (force s) o ≡ false → test_checks s o ≡ written_test s o
    unfolding test_checks written_no
    same_test o whole' agrees = ap₂ (λ b d.
        check 8 (not b) 0
        ∷ check 9 (bad_row s.n o) 0
        ∷ check 10 (not d) 0
        ∷ []) same-stands (same-refutes o whole' agrees (question s) ∙ ap (refutes_written o) same-question)

    same_step : perform_step s ≡ written_step s
    unfolding perform_step written_step
    same_step = ap₂ (λ x q. elim x as (λ y. Turn) [
      | whole ↦ turn finished s
      | tight ↦ turn moved (after_move s)
      | open-question ↦ turn (asked q) s
    ]) same-standing same-question

    same_first : (r : Implication ℕ) → first_refuting (force s) s.rows r ≡ first_written s.rows r
    unfolding first_refuting first_written
    same_first r = lowest-same (λ o. refutes (force s) o r) (λ o. refutes_written o r) s.rows (λ o m. same-refutes o (complete o m) (v.consistent o m) r)

  -- ---- a call, by its checks

  -- what a call is, given its checks and what it does once they pass
  settled : List Check → Turn → Turn
  settled cs t = elim (first_failing cs) [ none ↦ t | some r ↦ turn (refused r) s ]

  settled-refused : (cs : List Check) (t : Turn) (r : Refusal) → first_failing cs ≡ some r → settled cs t ≡ turn (refused r) s
  unfolding settled
  settled-refused cs t r e = ap (λ x. elim x as (λ y. Turn) [ none ↦ t | some w ↦ turn (refused w) s ]) e

  -- checks 1 to 7 refuse alike, or the rest is the same
  same-settled : (asked' : List (Implication ℕ)) (xs ys : List Check) (t u : Turn)
      → (first_failing (session_checks s asked') ≡ none → (xs ≡ ys) × (t ≡ u))
      → settled (session_checks s asked' ++ xs) t ≡ settled (session_checks s asked' ++ ys) u
  same-settled asked' xs ys t u same = go (first_failing (session_checks s asked')) refl
    where
      go : (x : Option Refusal) → first_failing (session_checks s asked') ≡ x → settled (session_checks s asked' ++ xs) t ≡ settled (session_checks s asked' ++ ys) u
      go none e = ap₂ (λ l w. settled (session_checks s asked' ++ l) w) (same e).0 (same e).1
      go (some r) e =
          settled-refused _ t r (failing-first (session_checks s asked') xs r e) ∙ sym (settled-refused _ u r (failing-first (session_checks s asked') ys r e))

  -- the same where 1 to 7 are all
  same-alone : (asked' : List (Implication ℕ)) (t u : Turn) → (first_failing (session_checks s asked') ≡ none → t ≡ u)
      → settled (session_checks s asked') t ≡ settled (session_checks s asked') u
  same-alone asked' t u same =
      ap (λ l. settled l t) (sym (append-nil (session_checks s asked'))) ∙ same-settled asked' [] [] t u (λ e. (refl, same e))
      ∙ ap (λ l. settled l u) (append-nil (session_checks s asked'))

  -- the second check 9 of a no decides nothing
  nine-once : (o : Object) → first_failing (written_test s o ++ filing_checks s o) ≡ first_failing (written_no s o)
  unfolding written_no filing_checks
  nine-once o = once-enough _ _ _ _

  same-call : (c : Call) → OffersComplete s c → perform s c ≡ written_perform s c
  unfolding perform written_perform settled checks_of written_checks performed written_performed
  same-call step k = same-alone [] _ _ (λ e. same_step [] e)
  same-call accept k = same-settled [] _ _ _ _ (λ e. (same-yes [] e, ap (λ q. turn taken (agreeing s q)) (same-question [] e)))
  same-call (reject o) k =
      same-settled [] _ (written_test s o ++ filing_checks s o) _ _ (λ e. (ap (λ l. l ++ filing_checks s o) (same_test [] e o k.0 k.1), refl))
      ∙ ap (λ v. elim v as (λ y. Turn) [ none ↦ turn taken (after_filing s o) | some r ↦ turn (refused r) s ])
      (failing-behind (session_checks s []) _ _ (nine-once o))
  same-call (follow r) k = refl
  same-call (refute r) k = same-alone (r ∷ []) _ _ (λ e. ap (λ p. turn (refuted_at p (length s.rows)) s) (same_first (r ∷ []) e r))
  same-call (test o) k = same-settled [] _ _ _ _ (λ e. (same_test [] e o k.0 k.1, refl))
  same-call (file o) k = refl
  same-call (fill r m) k = refl

pub unchanged : Unchanged
unchanged = record { unchanged = λ s c complete k. same-call s complete c k }
