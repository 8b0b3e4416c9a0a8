-- Results shown before the end, about the calls that run (02, request 8/13). What is said of two moments is `ShownResults` of the machine: the
-- request's four sentences, follows stays, refuted stays, never both and shortest, and what they say of answers and questions. Here the moments
-- are those of records and lent words: what a replay left, and what another replay left that was lent this; and every two moments of one log,
-- with the words of its answers. `Theorem` proves them from the contract of `replay` and the machine's theorem.
use Rattle.std.specs.Prelude.{◌≡◌, List, ◌++◌, ℕ, ◌/◌, ◌≤◌, ◌<◌, length, get_or}
use Rattle.std.proofs.Math.Option.{none, some}
use Rattle.theory.specs.Lists.{All}
use Rattle.theory.specs.Implications.{Implication}
use Rattle.machine.specs.Checks.{State}
use Rattle.machine.specs.Machine.{Call, follow, refute}
use Rattle.demands.specs.Demand3.{OverM, SameConsequences}
use Rattle.demands.specs.ShownResults.{ShownResults, Settles, AnsweredOnce}
use Rattle.machine.specs.Calls.{state_of}
use Rattle.answer_words.specs.declared.Answer.{Answer as Coded}
use Rattle.answer_words.specs.Codes.{coded}
use Rattle.call_logs.specs.Replay.{known, log_of, log_words, AllMade}
use Rattle.session.specs.declared.Session.{Session}
use Rattle.saved_interview.specs.Demand3Whole.{Interview, state_opened, end_state, script, rules, end_list}
use Rattle.saved_interview.specs.Trace.{state_after, answer_at, log}

-- ---- two replays in turn

-- calls made after an interview, on the record and the words that it left: the words of the calls, those lent for their answers, and what
-- replaying them left
pub record Continued {n : ℕ} {background : List ℕ} (i : Interview n background) : Type 0 where
  pub calls : List ℕ
  pub answers : List ℕ
  pub end : Session
  pub rows_later : List ℕ
  pub list_later : List ℕ
  pub answers_after : List ℕ
  -- the calls were made: what the contract of `replay` says where it answers Ok
  pub made : AllMade background calls i.end (log_words i.rows_later i.list_later answers) end (log_words rows_later list_later answers_after)

module _ {n : ℕ} {background : List ℕ} (i : Interview n background) (more : Continued i) where
  abbrev pub later_state : State
  later_state = state_of more.end more.rows_later more.list_later background

  -- the two replays leave what one interview leaves, with the calls of both in turn. So whatever is said of an interview, demand 3 too, is said
  -- of the session after any number of replays.
  pub record OneInterview : Type 0 where
    pub both : Interview n background
    -- the opening is that of the first
    pub used : both.used ≡ i.used
    pub rows : both.rows ≡ i.rows
    pub list : both.list ≡ i.list
    pub start : both.start ≡ i.start
    -- the calls are those of both, and the answers have room for them
    pub calls : script both ≡ script i ++ known (log_of more.calls)
    pub room : length both.calls / 4 ≤ length both.answers / 3
    -- record and words are left as the second left them
    pub end : both.end ≡ more.end
    pub rows_later : both.rows_later ≡ more.rows_later
    pub list_later : both.list_later ≡ more.list_later

  pub record ShownResultsWhole : Type 0 where
    -- of the record and the words that the interview left, in which somebody looks at the results, and of those that the calls after it left
    pub moments : ShownResults (end_state i) later_state
    -- 4. by the record's count: a list over M with the same consequences has at least as many rules
    pub shortest : (l : List (Implication ℕ)) → All (OverM n) l → SameConsequences n (rules i) (end_list i) l → i.end.rules ≤ length l
    pub one_interview : OneInterview

-- ---- one log

module _ {n : ℕ} {background : List ℕ} (i : Interview n background) where
  -- the state after the first k calls; by `Trace` it is the one that call k found
  abbrev pub moment : ℕ → State
  moment k = state_after (state_opened i) (log i) k

  -- call k of the log is c
  abbrev pub IsCall : ℕ → Call → Type 0
  IsCall k c = get_or (log i) k none ≡ some c

  -- the words that it was answered with
  abbrev pub words_at : ℕ → Coded
  words_at k = answer_at i.answers_after k

  pub record ShownInLog : Type 0 where
    -- every two moments of the log
    pub moments : (j k : ℕ) → j ≤ k → ShownResults (moment j) (moment k)
    -- a question that was answered is settled, and not asked again
    pub settles : (k : ℕ) (c : Call) → Settles (moment k) c
    pub answered_once : (j k : ℕ) → j < k → (c : Call) → IsCall j c → AnsweredOnce (moment j) c (moment k)
    -- in the words of the answers: "follows" (104, 1) is answered again, "refuted" (105 and the row) is answered again, at the same row or an
    -- earlier one, and of one rule never both are answered, wherever in the log
    pub follows_again : (r : Implication ℕ) (j k : ℕ) → j ≤ k → IsCall j (follow r) → IsCall k (follow r) → words_at j ≡ coded 104 1 0 → words_at k ≡ coded 104 1 0
    pub refuted_again : (r : Implication ℕ) (j k p : ℕ) → j ≤ k → IsCall j (refute r) → IsCall k (refute r) → words_at j ≡ coded 105 p 0
        → (p' : ℕ) × (p' ≤ p) × (words_at k ≡ coded 105 p' 0)
    pub never_both_in_log : (r : Implication ℕ) (j k p : ℕ) → IsCall j (follow r) → IsCall k (refute r) → words_at j ≡ coded 104 1 0 → words_at k ≡ coded 105 p 0 → ⊥
