-- Every interview has its trace (`trace`), and every list of calls is the log of its words (`every-log`).
use Rattle.std.specs.Prelude.{◌≡◌, refl, List, [], ◌∷◌, ◌++◌, ℕ, zero, suc, ◌+◌, ◌*◌, ◌/◌, ◌<◌, length, get_or}
use Rattle.std.proofs.Math.Path.{sym, ap}
use Rattle.std.proofs.Common.{◌∙◌, subst, arith}
use Rattle.std.proofs.Math.Option.{Option, none, some}
use Rattle.std.proofs.Math.Seq.{take-length}
use Rattle.implication.proofs.Pairs.Laws.{length_pairs}
use Rattle.implication.specs.Closure.{implication}
use Rattle.context.specs.Objects.{object, objects_of}
use Rattle.machine.specs.Checks.{State}
use Rattle.machine.specs.Machine.{Call, step, accept, reject, follow, refute, test, file, fill, perform, run}
use Rattle.demands.specs.Facts.{Fine}
use Rattle.demands.proofs.Facts.Kept.{never-bad}
use Rattle.answer_words.specs.Codes.{coded}
use Rattle.logged_calls.specs.Kinds.{call_of}
use Rattle.call_logs.specs.Replay.{calls_of, replay_code, replay_after, known, answers_of, log_of}
use Rattle.saved_interview.specs.Demand3Whole.{Interview, state_opened, end_state, script, rules}
use Rattle.saved_interview.specs.Trace.{state_after, answer_at, log, Trace, words_of, log_words_of}

-- ---- one call more

one_more : (s : State) (cs : List (Option Call)) (k : ℕ) → k < length cs → state_after s cs (suc k) ≡ replay_after (state_after s cs k) (get_or cs k none)
unfolding run known
one_more s [] k h = absurd (omega arith)
one_more s (none ∷ cs) zero h = refl
one_more s (some c ∷ cs) zero h = refl
one_more s (none ∷ cs) (suc k) h = one_more s cs k (omega arith)
one_more s (some c ∷ cs) (suc k) h = one_more (perform s c).after cs k (omega arith)

-- three words further on
further : (x y z : ℕ) (l : List ℕ) (k : ℕ) → answer_at (x ∷ y ∷ z ∷ l) (suc k) ≡ answer_at l k
further x y z l k =
    let a : suc k * 3 ≡ suc (suc (suc (k * 3))) = omega arith in
    let b : suc k * 3 + 1 ≡ suc (suc (suc (k * 3 + 1))) = omega arith in
    let c : suc k * 3 + 2 ≡ suc (suc (suc (k * 3 + 2))) = omega arith in
    λ i. coded (get_or (x ∷ y ∷ z ∷ l) (a i) 0) (get_or (x ∷ y ∷ z ∷ l) (b i) 0) (get_or (x ∷ y ∷ z ∷ l) (c i) 0)

-- its answer stands at its place
answered-at : (s : State) (cs : List (Option Call)) (rest : List ℕ) (k : ℕ) → k < length cs
    → answer_at (answers_of s cs ++ rest) k ≡ replay_code (state_after s cs k) (get_or cs k none)
unfolding run known answers_of
answered-at s [] rest k h = absurd (omega arith)
answered-at s (c ∷ cs) rest zero h = refl
answered-at s (none ∷ cs) rest (suc k) h =
    further (replay_code s none).code (replay_code s none).first (replay_code s none).second (answers_of s cs ++ rest) k
    ∙ answered-at s cs rest k (omega arith)
answered-at s (some c ∷ cs) rest (suc k) h =
    further (replay_code s (some c)).code (replay_code s (some c)).first (replay_code s (some c)).second (answers_of (perform s c).after cs ++ rest) k
    ∙ answered-at (perform s c).after cs rest k (omega arith)

-- ---- a trace

module _ {n : ℕ} {background : List ℕ} (i : Interview n background) where
  -- the end is fine, as every state after an accepted opening
  end-fine : Fine (end_state i)
  end-fine =
      subst (λ s. Fine s) (sym i.made.holds)
      (never-bad n (record { rows = length i.rows; list = length i.list; background = length background }) (rules i)
      (objects_of i.used i.rows) (state_opened i) (sym i.opens) (script i))

  pub trace : Trace i
  unfolding run known
  trace = record {
    starts = refl;
    each = λ k h. record {
      answered = ap (λ ws. answer_at ws k) i.made.answers ∙ answered-at (state_opened i) (log i) _ k h;
      left = one_more (state_opened i) (log i) k h;
    };
    ends = ap (λ cs. run (state_opened i) (known cs)) (take-length (log i)) ∙ sym i.made.holds;
    row_places = omega (arith, end-fine.row_places, length_pairs object i.end.rows i.rows_later);
    list_places = omega (arith, end-fine.list_places, length_pairs implication i.end.rules i.list_later);
  }

-- ---- every list of calls is a log

-- four words more are one call more
four-more : (k a b c : ℕ) (ws : List ℕ) → log_of (k ∷ a ∷ b ∷ c ∷ ws) ≡ call_of k a b c ∷ log_of ws
unfolding calls_of
four-more k a b c ws =
    let e : suc (suc (suc (suc (length ws)))) / 4 ≡ suc (length ws / 4) = omega arith in
    ap (λ m. calls_of m (k ∷ a ∷ b ∷ c ∷ ws)) e

every_call : (c : Call) (ws : List ℕ) → log_of (words_of c ws) ≡ some c ∷ log_of ws
unfolding call_of
every_call step ws = four-more 0 0 0 0 ws
every_call accept ws = four-more 1 0 0 0 ws
every_call (reject o) ws = four-more 2 o.yes_marks o.no_marks 0 ws
every_call (follow r) ws = four-more 3 r.premise r.conclusion 0 ws
every_call (refute r) ws = four-more 4 r.premise r.conclusion 0 ws
every_call (test o) ws = four-more 5 o.yes_marks o.no_marks 0 ws
every_call (file o) ws = four-more 6 o.yes_marks o.no_marks 0 ws
every_call (fill k m) ws = four-more 7 k m.yes_marks m.no_marks ws

pub every-log : (cs : List Call) → known (log_of (log_words_of cs)) ≡ cs
unfolding known calls_of
every-log [] = refl
every-log (c ∷ cs) = ap known (every_call c (log_words_of cs)) ∙ ap (λ l. c ∷ l) (every-log cs)
