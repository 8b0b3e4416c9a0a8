-- Request 8/13 of the machine, whole (`request-8`): from every accepted opening, after all lists of calls, what follows goes on following, what is
-- refuted goes on being refuted, nothing is both, the list is as short as any with the same consequences, and no question comes back that
-- was answered.
use Rattle.std.specs.Prelude.{◌≡◌, refl, List, [], ◌∷◌, ◌++◌, ℕ, ◌≤◌, length}
use Rattle.std.proofs.Common.{sym, subst, inl, inr, ⊎_elim, arith, length-append}
use mathlib.Core.List.Memᴰ
use Rattle.std.proofs.Math.Option.{none}
use Rattle.std.proofs.Math.Seq.{get_or-append_seam}
use Rattle.theory.specs.Implications.{Implication}
use Rattle.attribute_set.specs.Sets.{Sub}
use Rattle.attribute_set.proofs.Sets.Laws.{without_sub}
use Rattle.implication.proofs.Closure.Laws.{listed-follows, follows-sub}
use Rattle.context.specs.Objects.{Object, object}
use Rattle.context.proofs.Objects.Laws.{refutes-has, refutes-lacks}
use Rattle.context.specs.Filling.{object_at}
use Rattle.context.proofs.Filling.Laws.{object-member}
use Rattle.reach.proofs.Reach.Laws.{reach-apart}
use Rattle.machine.specs.Checks.{Lent, State, force, reach_of, question, with_question, first_failing, session_checks}
use Rattle.machine.proofs.Checks.Laws.{no_both, Stands}
use Rattle.machine.specs.Machine.{Call, step, accept, reject, follow, refute, test, file, fill, taken, after_filing, performed, checks_of, perform, run, opening, opened}
use Rattle.machine.proofs.Machine.Laws.{perform-cases, finished-full}
use Rattle.demands.proofs.Replies.Laws.{run-same}
use Rattle.demands.specs.Demand3.{Finished}
use Rattle.demands.proofs.Demand3.Invariant.{Reached, run-reached, opened-reached, question-new}
use Rattle.demands.proofs.Demand3.Theorem.{decided, shortest}
use Rattle.demands.specs.Facts.{Fine}
use Rattle.demands.proofs.Facts.Laws.{checks-fine, fine-checks, checks-test}
use Rattle.demands.proofs.Facts.Kept as kept
use Rattle.demands.specs.ShownResults.{RefutedBy, Refuted, Settled, first_row, Asks, SaysFollows, SaysRefuted, ResultsStay, AnswersStay, QuestionsStay, ShownResults, Settles, AnsweredOnce, Request8}
use Rattle.demands.proofs.ShownResults.Laws.{run-append, run-follows, run-refuted, run_settled, first-least, first-refutes, first-used, refuted-or-not, said-follows, says-follows, said-refuted, says-refuted, fine-apart, never_said_both}

-- ---- a question

-- what is asked is not settled: its conclusion is new, and in the reach, which no row takes anything from
asked-open : (s : State) → Reached s → Fine s → (q : Implication ℕ) → Asks s q → Settled s q → ⊥
asked-open s h f q a d =
    let t = kept.asked-stands s f q a in
    go t.0 (subst (λ x. Settled s x) t.1 d)
  where
    go : Stands s → Settled s (question s) → ⊥
    go t (inl e) = question-new s h t (subst (λ x. Sub (question s).conclusion x) f.closed (follows-sub (force s) (question s) e))
    go t (inr (k, r)) =
        let o = object_at s.rows k in
        let m = refutes-lacks (force s) o (question s) r.by_row in
        let clear = reach-apart (force s) s.n s.rows s.current o (object-member k s.rows r.used) (refutes-has (force s) o (question s) r.by_row) in
        clear.at m.0 ((without_sub (reach_of s) s.current).at m.0 m.1) m.2

-- an accepted reply settles it: after a yes it follows, after a no the offered row refutes it
reply-settles : (s : State) → Fine s → (c : Call) → Settles s c
unfolding performed checks_of
reply-settles s f step i q a = absurd i
reply-settles s f accept i q a =
    perform-cases s accept (λ t. t.answer ≡ taken → Settled t.after q)
    (λ e h. subst (λ x. Settled (performed s accept).after x) (sym (kept.asked-stands s f q a).1)
    (inl (listed-follows (with_question s) (question s) (Memᴰ.append_right s.background (Memᴰ.append_right s.list (Memᴰ.head refl))))))
    (λ r e h. absurd (let z : ◌≡◌ {A = ℕ} 0 1 = cc in omega arith))
reply-settles s f (reject o) i q a =
    perform-cases s (reject o) (λ t. t.answer ≡ taken → Settled t.after q)
    (λ e h. subst (λ x. Settled (after_filing s o) x) (sym (kept.asked-stands s f q a).1)
    (inr (
      length s.rows,
      record {
        used = omega (arith, length-append s.rows (o ∷ []));
        by_row = rw (get_or-append_seam s.rows o [] (object 0 0)) (checks-test s o (no_both s o e).0).refuting;
      },
    )))
    (λ r e h. absurd (let z : ◌≡◌ {A = ℕ} 0 1 = cc in omega arith))
reply-settles s f (follow r) i q a = absurd i
reply-settles s f (refute r) i q a = absurd i
reply-settles s f (test o) i q a = absurd i
reply-settles s f (file o) i q a = absurd i
reply-settles s f (fill k m) i q a = absurd i

-- ---- from an accepted opening

-- checks 1 to 7 of a call about r pass again where the state is fine
checked-again : (s : State) (calls : List Call) (r : Implication ℕ) → Fine (run s calls) → first_failing (session_checks s (r ∷ [])) ≡ none
    → first_failing (session_checks (run s calls) (r ∷ [])) ≡ none
checked-again s calls r f e = fine-checks (run s calls) (r ∷ []) f (rw (run-same s calls).n (checks-fine s (r ∷ []) e).1)

module _ (n : ℕ) (lent : Lent) (background : List (Implication ℕ)) (rows : List Object) (start : State)
    (o : opening n lent background rows ≡ opened start) where
  fine : (calls : List Call) → Fine (run start calls)
  fine = kept.never-bad n lent background rows start o

  reached : (calls : List Call) → Reached (run start calls)
  reached calls = run-reached start calls (opened-reached n lent background rows start o)

  module _ (calls more : List Call) where
    abbrev shown : State
    shown = run start calls

    abbrev later : State
    later = run shown more

    as_in_turn : run start (calls ++ more) ≡ later
    as_in_turn = run-append start calls more

    fine-later : Fine later
    fine-later = subst (λ s. Fine s) as_in_turn (fine (calls ++ more))

    reached-later : Reached later
    reached-later = subst (λ s. Reached s) as_in_turn (reached (calls ++ more))

    -- the first row that refutes goes on refuting
    first-again : (r : Implication ℕ) → Refuted shown r → RefutedBy later r (first_row shown r)
    first-again r h = run-refuted shown more r (first_row shown r) (first-refutes shown r (first-used shown r h))

    results-stay : ResultsStay shown later
    results-stay = record {
      follows_stays = run-follows shown more;
      refuted_stays = λ r h. (h.0, run-refuted shown more r h.0 h.1);
      row_stays = run-refuted shown more;
      first_stays = λ r h. first-least later r (first_row shown r) (first-again r h);
      never_both = λ r. fine-apart shown r (fine calls);
      shortest = shortest shown (reached calls);
    }

    follows_again : (r : Implication ℕ) → SaysFollows shown r → SaysFollows later r
    unfolding checks_of
    follows_again r a =
        let t = said-follows shown r a in
        says-follows later r (checked-again shown more r fine-later t.0) (run-follows shown more r t.1)

    refuted_again : (r : Implication ℕ) (k : ℕ) → SaysRefuted shown r k → (j : ℕ) × (j ≤ k) × SaysRefuted later r j
    unfolding checks_of
    refuted_again r k a =
        let t = said-refuted shown r k a in (
          first_row later r,
          omega (arith, results-stay.first_stays r t.2, t.1),
          says-refuted later r (checked-again shown more r fine-later t.0) (results-stay.refuted_stays r t.2),
        )

    answers_stay : AnswersStay shown later
    answers_stay = record {
      follows_again = follows_again;
      refuted_again = refuted_again;
      never_said_both = never_said_both shown;
      not_refuted_later = λ r k a b. never_said_both later r k (follows_again r a) b;
      not_followed_later = λ r k a b. let t = refuted_again r k a in never_said_both later r t.0 b t.2;
    }

    still-finished : Finished shown → Finished later
    still-finished = kept.stays_finished n lent background rows start o calls more

    questions-stay : QuestionsStay shown later
    questions-stay = record {
      not_asked = λ q d a. asked-open later reached-later fine-later q a (run_settled shown more q d);
      stays_finished = still-finished;
      list_stays = λ d. kept.list_stays shown more (finished-full shown d);
      no_question_back = λ d q a. absurd (let e = still-finished d in let z : ◌≡◌ {A = ℕ} 0 1 = cc in omega arith);
      nothing_open = λ d r over. ⊎_elim inr (λ h. inl ((decided shown (reached calls) d r over).1 h)) (refuted-or-not shown r);
    }

    every_moment : ShownResults shown (run start (calls ++ more))
    every_moment = rw as_in_turn (record { results = results-stay; answers = answers_stay; questions = questions-stay })

  answered_once : (calls more : List Call) (c : Call) → AnsweredOnce (run start calls) c (run start (calls ++ (c ∷ more)))
  unfolding run
  answered_once calls more c i q a t b =
      asked-open (run start (calls ++ (c ∷ more))) (reached (calls ++ (c ∷ more))) (fine (calls ++ (c ∷ more))) q b
      (rw (run-append start calls (c ∷ more)) (run_settled (perform (run start calls) c).after more q (reply-settles (run start calls) (fine calls) c i q a t)))

pub request-8 : Request8
request-8 = record {
  every_moment = every_moment;
  settles = λ n lent background rows start o calls. reply-settles (run start calls) (fine n lent background rows start o calls);
  answered_once = answered_once;
}
