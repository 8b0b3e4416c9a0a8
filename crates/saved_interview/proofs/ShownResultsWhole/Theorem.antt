-- Request 8/13 of the calls that run: `shown-results-whole` for two replays in turn, which leave what one interview leaves (`one_interview`),
-- `shown-in-log` for every two moments of one log. The contract of `replay` says that record and words hold the plain machine's state, and the
-- answers' words are its answers; the rest is the machine's theorem.
use Rattle.std.specs.Prelude.{◌≡◌, refl, ◌⊎◌, List, [], ◌∷◌, ◌++◌, ℕ, zero, suc, ◌*◌, ◌/◌, ◌≤◌, ◌<◌, length, get_or, take, drop, replicate}
use Rattle.std.proofs.Common.{sym, ◌∙◌, subst, inl, inr, append_assoc, arith}
use Rattle.std.proofs.Math.Path.{ap}
use Rattle.std.proofs.Math.Option.{Option, none, some, some-ne-none}
use Rattle.std.proofs.Math.ListN.{length-replicate}
use Rattle.theory.specs.Implications.{Implication}
use Rattle.attribute_set.proofs.Sets.Laws.{lt-or-le}
use Rattle.machine.specs.Machine.{Call, follow, refute, perform, run}
use Rattle.demands.specs.ShownResults.{SaysFollows, SaysRefuted, ShownResults, AnsweredOnce}
use Rattle.demands.proofs.ShownResults.Laws.{run-append}
use Rattle.demands.proofs.ShownResults.Theorem.{request-8}
use Rattle.answer_words.specs.declared.Answer.{Answer as Coded}
use Rattle.answer_words.specs.Codes.{coded, code_of, answer_in}
use Rattle.answer_words.proofs.Codes.Laws.{words-tell}
use Rattle.call_logs.specs.Replay.{replay_code, known, answers_of, log_of}
use Rattle.call_logs.proofs.OfReplay.Loop.{past-trans}
use Rattle.saved_interview.specs.Demand3Whole.{Interview, state_opened, end_state, script, rules}
use Rattle.saved_interview.proofs.Demand3Whole.Theorem.{demand-3-whole}
use Rattle.saved_interview.specs.Trace.{log, log_words_of}
use Rattle.saved_interview.proofs.Trace.Proof.{trace, every-log}
use Rattle.saved_interview.specs.ShownResultsWhole.{Continued, later_state, OneInterview, ShownResultsWhole, moment, IsCall, words_at, ShownInLog}

module _ {n : ℕ} {background : List ℕ} (i : Interview n background) where
  -- the machine's theorem, from the opening
  lasting : (calls more : List Call) → ShownResults (run (state_opened i) calls) (run (state_opened i) (calls ++ more))
  lasting = request-8.every_moment n _ (rules i) _ (state_opened i) (sym i.opens)

  once : (calls more : List Call) (c : Call) → AnsweredOnce (run (state_opened i) calls) c (run (state_opened i) (calls ++ (c ∷ more)))
  once = request-8.answered_once n _ (rules i) _ (state_opened i) (sym i.opens)

-- ---- two replays in turn

module _ {n : ℕ} {background : List ℕ} (i : Interview n background) (more : Continued i) where
  abbrev calls : List Call
  calls = script i ++ known (log_of more.calls)

  ends : run (state_opened i) calls ≡ later_state i more
  ends = run-append (state_opened i) (script i) (known (log_of more.calls)) ∙ ap (λ s. run s (known (log_of more.calls))) (sym i.made.holds) ∙ sym more.made.holds

  -- one interview with the words of all calls, lent as many words for their answers
  both : Interview n background
  both = record {
    used = i.used;
    rows = i.rows;
    list = i.list;
    answers = replicate (length (log_words_of calls)) 0;
    calls = log_words_of calls;
    start = i.start;
    end = more.end;
    rows_later = more.rows_later;
    list_later = more.list_later;
    answers_after = answers_of (state_opened i) (log_of (log_words_of calls)) ++ drop (length (log_words_of calls) / 4 * 3) (replicate (length (log_words_of calls)) 0);
    opens = i.opens;
    made = record {
      holds = sym ends ∙ ap (run (state_opened i)) (sym (every-log calls));
      answers = refl;
      rows = past-trans i.made.rows more.made.rows;
      list = past-trans i.made.list more.made.list;
    };
  }

  pub one_interview : OneInterview i more
  unfolding both
  one_interview = record {
    both = both;
    used = refl;
    rows = refl;
    list = refl;
    start = refl;
    calls = every-log calls;
    room = omega (arith, length-replicate {A = ℕ} (length (log_words_of calls)) 0);
    end = refl;
    rows_later = refl;
    list_later = refl;
  }

  pub shown-results-whole : ShownResultsWhole i more
  shown-results-whole = record {
    moments = subst (λ s. ShownResults (end_state i) s) ends
        (subst (λ s. ShownResults s (run (state_opened i) calls)) (sym i.made.holds) (lasting i (script i) (known (log_of more.calls))));
    shortest = (demand-3-whole i).shortest;
    one_interview = one_interview;
  }

-- ---- the calls of a log

-- the known calls among the first k are those among the first j, and more
more-known : (cs : List (Option Call)) (j k : ℕ) → j ≤ k → (more : List Call) × (known (take k cs) ≡ known (take j cs) ++ more)
unfolding known
more-known cs zero k h = (known (take k cs), refl)
more-known cs (suc j) zero h = absurd (omega arith)
more-known [] (suc j) (suc k) h = ([], refl)
more-known (none ∷ cs) (suc j) (suc k) h = more-known cs j k (omega arith)
more-known (some c ∷ cs) (suc j) (suc k) h = let t = more-known cs j k (omega arith) in (t.0, ap (λ l. c ∷ l) t.1)

-- and call j is the next
next_known : (cs : List (Option Call)) (j : ℕ) (c : Call) → get_or cs j none ≡ some c → known (take (suc j) cs) ≡ known (take j cs) ++ (c ∷ [])
unfolding known
next_known [] j c e = absurd (some-ne-none c (sym e))
next_known (none ∷ cs) zero c e = absurd (some-ne-none c (sym e))
next_known (some d ∷ cs) zero c e = let same : d ≡ c = cc in ap (λ x. x ∷ []) same
next_known (none ∷ cs) (suc j) c e = next_known cs j c e
next_known (some d ∷ cs) (suc j) c e = ap (λ l. d ∷ l) (next_known cs j c e)

-- a call that is there is one of the log
call_below : (cs : List (Option Call)) (j : ℕ) (c : Call) → get_or cs j none ≡ some c → j < length cs
call_below [] j c e = absurd (some-ne-none c (sym e))
call_below (x ∷ cs) zero c e = omega arith
call_below (x ∷ cs) (suc j) c e = omega (arith, call_below cs j c e)

module _ {n : ℕ} {background : List ℕ} (i : Interview n background) where
  two-moments : (j k : ℕ) → j ≤ k → ShownResults (moment i j) (moment i k)
  two-moments j k h =
      let t = more-known (log i) j k h in
      subst (λ l. ShownResults (moment i j) (run (state_opened i) l)) (sym t.1) (lasting i (known (take j (log i))) t.0)

  answered_once : (j k : ℕ) → j < k → (c : Call) → IsCall i j c → AnsweredOnce (moment i j) c (moment i k)
  answered_once j k h c e =
      let t = more-known (log i) (suc j) k (omega arith) in
      let before = known (take j (log i)) in
      let calls : known (take k (log i)) ≡ before ++ (c ∷ t.0) =
      t.1 ∙ ap (λ l. l ++ t.0) (next_known (log i) j c e) ∙ append_assoc before (c ∷ []) t.0 in
      subst (λ l. AnsweredOnce (moment i j) c (run (state_opened i) l)) (sym calls) (once i before t.0 c)

  -- the words of a call are those of the machine's answer at its moment
  words-say : (k : ℕ) (c : Call) → IsCall i k c → words_at i k ≡ code_of (perform (moment i k) c).answer
  words-say k c e = ((trace i).each k (call_below (log i) k c e)).answered ∙ ap (replay_code (moment i k)) e

  -- so they tell what it was
  said : (k : ℕ) (c : Call) (x : Coded) → IsCall i k c → words_at i k ≡ x → (perform (moment i k) c).answer ≡ answer_in x
  said k c x e h = words-tell (moment i k) c (words_at i k) (words-say k c e) ∙ ap answer_in h

  pub shown-in-log : ShownInLog i
  unfolding answer_in
  shown-in-log = record {
    moments = two-moments;
    settles = λ k. request-8.settles n _ (rules i) _ (state_opened i) (sym i.opens) (known (take k (log i)));
    answered_once = answered_once;
    follows_again = λ r j k h a b x. words-say k (follow r) b ∙ ap code_of ((two-moments j k h).answers.follows_again r (said j (follow r) (coded 104 1 0) a x));
    refuted_again = λ r j k p h a b x.
        let t = (two-moments j k h).answers.refuted_again r p (said j (refute r) (coded 105 p 0) a x) in
        (t.0, t.1, words-say k (refute r) b ∙ ap code_of t.2);
    never_both_in_log = λ r j k p a b x y.
        never r j k p (said j (follow r) (coded 104 1 0) a x) (said k (refute r) (coded 105 p 0) b y) (lt-or-le j k);
  }
    where
      never : (r : Implication ℕ) (j k p : ℕ) → SaysFollows (moment i j) r → SaysRefuted (moment i k) r p → (j < k) ⊎ (k ≤ j) → ⊥
      never r j k p f g (inl h) = (two-moments j k (omega arith)).answers.not_refuted_later r p f g
      never r j k p f g (inr h) = (two-moments k j h).answers.not_followed_later r p g f
