-- "After each call" (01, "The interview"): the calls of a log one by one. A trace has one link for each call: the state before it, its
-- answer's three words, the state after it. And every list of calls is the log of some words.
use Rattle.std.specs.Prelude.{◌≡◌, List, [], ◌∷◌, ℕ, suc, ◌+◌, ◌*◌, ◌≤◌, ◌<◌, length, get_or, take}
use Rattle.std.proofs.Math.Option.{Option, none}
use Rattle.machine.specs.Checks.{State}
use Rattle.machine.specs.Machine.{Call, step, accept, reject, follow, refute, test, file, fill, run}
use Rattle.answer_words.specs.declared.Answer.{Answer as Coded}
use Rattle.answer_words.specs.Codes.{coded}
use Rattle.call_logs.specs.Replay.{replay_code, replay_after, known, log_of}
use Rattle.saved_interview.specs.Demand3Whole.{Interview, state_opened, end_state}

-- the state after the first k calls of a log
abbrev pub state_after : State → List (Option Call) → ℕ → State
state_after s log k = run s (known (take k log))

-- the answer to call k, in its three words
abbrev pub answer_at : List ℕ → ℕ → Coded
answer_at words k = coded (get_or words (k * 3) 0) (get_or words (k * 3 + 1) 0) (get_or words (k * 3 + 2) 0)

-- one call: its answer and the state after it are the plain machine's
pub record Link (before : State) (c : Option Call) (answer : Coded) (after : State) : Type 0 where
  pub answered : answer ≡ replay_code before c
  pub left : after ≡ replay_after before c

module _ {n : ℕ} {background : List ℕ} (i : Interview n background) where
  abbrev pub log : List (Option Call)
  log = log_of i.calls

  pub record Trace : Type 0 where
    -- from the state that the opening left, call by call, to the state that record and words hold in the end
    pub starts : state_after (state_opened i) log 0 ≡ state_opened i
    pub each : (k : ℕ) → k < length log
        → Link (state_after (state_opened i) log k) (get_or log k none) (answer_at i.answers_after k) (state_after (state_opened i) log (suc k))
    pub ends : state_after (state_opened i) log (length log) ≡ end_state i
    -- rows and rules in use never exceed the places, so that no missing word is read
    pub row_places : i.end.rows * 2 ≤ length i.rows_later
    pub list_places : i.end.rules * 2 ≤ length i.list_later

-- the words of a call, with 0 for the arguments that its kind does not use, and of a list of calls
abbrev pub words_of : Call → List ℕ → List ℕ
words_of step ws = 0 ∷ 0 ∷ 0 ∷ 0 ∷ ws
words_of accept ws = 1 ∷ 0 ∷ 0 ∷ 0 ∷ ws
words_of (reject o) ws = 2 ∷ o.yes_marks ∷ o.no_marks ∷ 0 ∷ ws
words_of (follow r) ws = 3 ∷ r.premise ∷ r.conclusion ∷ 0 ∷ ws
words_of (refute r) ws = 4 ∷ r.premise ∷ r.conclusion ∷ 0 ∷ ws
words_of (test o) ws = 5 ∷ o.yes_marks ∷ o.no_marks ∷ 0 ∷ ws
words_of (file o) ws = 6 ∷ o.yes_marks ∷ o.no_marks ∷ 0 ∷ ws
words_of (fill k m) ws = 7 ∷ k ∷ m.yes_marks ∷ m.no_marks ∷ ws

abbrev pub log_words_of : List Call → List ℕ
log_words_of [] = []
log_words_of (c ∷ cs) = words_of c (log_words_of cs)
