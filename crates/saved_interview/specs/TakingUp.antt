-- A saved interview taken up again: a session is opened and a log of calls is made on it, in one call. Its contract joins demand 3 and request
-- 8/13 to the code: where the calls were made, `Demand3Whole`, the `Trace` and `ShownInLog` of the interview made of the values at entry and at exit.
use Rattle.std.specs.Prelude.{◌≡◌, ◌⊎◌, Bool, true, false, List, ℕ, ◌/◌, ◌<◌, length, Ok, Err}
use Rattle.session.specs.declared.Session.{Session}
use Rattle.session.specs.declared.Refusal.{Refusal}
use Rattle.context.specs.Objects.{Object}
use Rattle.machine.specs.Machine.{opened, rejected}
use Rattle.demands.specs.Replies.{Truthful}
use Rattle.demands.specs.Demand3.{Finished}
use Rattle.machine.specs.Calls.{state_of, Words, Record, opening_from}
use Rattle.answer_words.specs.declared.Answer.{Answer as Coded}
use Rattle.answer_words.specs.Codes.{coded, LentAnswer}
use Rattle.call_logs.specs.Replay.{LogWords, log_words, Replayed, AllMade}
use Rattle.saved_interview.specs.Demand3Whole.{Interview, state_opened, end_state, script, Demand3Whole, SameLists}
use Rattle.saved_interview.specs.Trace.{Trace}
use Rattle.saved_interview.specs.ShownResultsWhole.{ShownInLog}

-- the answer to a log, the record that is left, and whether it changed: only where the calls were made
abbrev pub TurnAfter : Session → Replayed → Coded → Session → Bool → Type 0
TurnAfter before (Ok after) x left changed = (x ≡ coded 103 0 0) × ((left ≡ after) × (changed ≡ true))
TurnAfter before (Err e) x left changed = (x ≡ coded 3 0 0) × ((left ≡ before) × (changed ≡ false))

-- n, rows in use, background words, words of the calls; the record and words before, the answer, and the record and words after
module _ (n used : ℕ) (background calls : List ℕ) (before : Session) (words : LogWords) (x : Coded) (after : Session) (words' : LogWords) where
  -- the opening was refused: its number and place, and nothing was done
  pub record NotOpened : Type 0 where
    pub refusal : Refusal
    pub rejects : opening_from n used words.rows words.list background ≡ rejected refusal
    pub answer : x ≡ coded refusal.number refusal.place 0
    pub same_record : after ≡ before
    pub same_words : words' ≡ words

  -- the answers have no room for all calls: 3, and nothing was done
  pub record NoRoom : Type 0 where
    pub short : length words.answers / 3 < length calls / 4
    pub answer : x ≡ coded 3 0 0
    pub same_record : after ≡ before
    pub same_words : words' ≡ words

  -- every call was made on the session that the opening gave
  pub record TakenUp : Type 0 where
    pub start : Session
    pub opens : opened (state_of start words.rows words.list background) ≡ opening_from n used words.rows words.list background
    pub made : AllMade background calls start words after words'
    pub answer : x ≡ coded 103 0 0

  -- the interview made of the values at entry and at exit
  abbrev pub interview : TakenUp → Interview n background
  interview t = record {
    used = used;
    rows = words.rows;
    list = words.list;
    answers = words.answers;
    calls = calls;
    start = t.start;
    end = after;
    rows_later = words'.rows;
    list_later = words'.list;
    answers_after = words'.answers;
    opens = t.opens;
    made = t.made;
  }

  pub record Held : Type 0 where
    pub taken_up : TakenUp
    pub demand_3 : Demand3Whole (interview taken_up)
    pub trace : Trace (interview taken_up)
    pub shown : ShownInLog (interview taken_up)

  abbrev pub Outcome : Type 0
  Outcome = NotOpened ⊎ (NoRoom ⊎ Held)

-- what taking up a saved interview promises of the lent words: rows, list, background, calls, answers
abbrev pub TakesUp : ℕ → ℕ → Session → Words → Words → Words → Words → Words → Coded → Session → Type 0
TakesUp n used before rows list background calls answers x after =
    Outcome n used background.entry.now calls.entry.now before (log_words rows.entry.now list.entry.now answers.entry.now) x after
    (log_words rows.exit.now list.exit.now answers.exit.now)

-- the same, and whether the record changed: only where the calls were made
abbrev pub TakesUpTo : ℕ → ℕ → Session → Words → Words → Words → Words → Words → Coded → Session → Bool → Type 0
TakesUpTo n used before rows list background calls answers x after changed =
    TakesUp n used before rows list background calls answers x after × (changed ≡ false → after ≡ before)

-- over a lent record, with the answer put where the caller says
abbrev pub TakesUpOn : ℕ → ℕ → Record → Words → Words → Words → Words → Words → LentAnswer → Type 0
TakesUpOn n used session rows list background calls answers answer =
    TakesUp n used session.entry.now rows list background calls answers answer.exit.now session.exit.now

-- two interviews taken up with the same n and background, both finished and truthful to one complete table, hold the same list
abbrev pub SameListTakenUp : ℕ → List ℕ → Type 0
SameListTakenUp n background =
    (used used' : ℕ) (calls calls' : List ℕ) (before before' : Session) (words words' : LogWords) (x x' : Coded) (after after' : Session) (left left' : LogWords)
    (h : Held n used background calls before words x after left) (h' : Held n used' background calls' before' words' x' after' left')
    → let i = interview n used background calls before words x after left h.taken_up in
    let j = interview n used' background calls' before' words' x' after' left' h'.taken_up in
    Finished (end_state i) → Finished (end_state j) → (t : List Object) → Truthful t (state_opened i) (script i) → Truthful t (state_opened j) (script j) → SameLists i j
