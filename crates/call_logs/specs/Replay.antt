-- Logs of an interview: calls as four words each (kind, three arguments), answers as three words each (code, two values), and
-- what the plain machine makes of a log. An unknown kind gets a code of its own and changes nothing.
use Rattle.std.specs.Prelude.{◌≡◌, Result, Ok, Err, Bool, not, List, [], ◌∷◌, ◌++◌, ℕ, zero, suc, ◌+◌, ◌*◌, ◌/◌, ◌≤◌, ◌<◌, length, get_or, drop, set}
use Rattle.std.proofs.Math.Option.{Option, none, some}
use Rattle.machine.specs.Checks.{State}
use Rattle.machine.specs.Machine.{Call, perform, run}
use Rattle.machine.specs.Calls.{state_of, Words, Record}
use Rattle.session.specs.declared.Session.{Session}
use Rattle.session.specs.Records.{same_session}
use Rattle.answer_words.specs.Codes.{coded, code_of, LentAnswer}
use Rattle.answer_words.specs.declared.Answer.{Answer as Coded}
use Rattle.logged_calls.specs.Kinds.{call_of}
use Rattle.call_logs.specs.declared.NoRoom.{NoRoom}

-- a log: the first n calls of a slice of words
unfoldable pub calls_of : ℕ → List ℕ → List (Option Call)
calls_of zero ws = []
calls_of (suc n) ws = call_of (get_or ws 0 0) (get_or ws 1 0) (get_or ws 2 0) (get_or ws 3 0) ∷ calls_of n (drop 4 ws)

-- one call of a log: its answer, and the state after it
abbrev pub replay_code : State → Option Call → Coded
replay_code s none = coded 107 0 0
replay_code s (some c) = code_of (perform s c).answer

abbrev pub replay_after : State → Option Call → State
replay_after s none = s
replay_after s (some c) = (perform s c).after

-- the calls of known kind
unfoldable pub known : List (Option Call) → List Call
known [] = []
known (none ∷ cs) = known cs
known (some c ∷ cs) = c ∷ known cs

-- the answers to a log, one after the other
unfoldable pub answers_of : State → List (Option Call) → List ℕ
answers_of s [] = []
answers_of s (c ∷ cs) = (replay_code s c).code ∷ (replay_code s c).first ∷ (replay_code s c).second ∷ answers_of (replay_after s c) cs

-- the words with an answer stored at i
abbrev pub stored : List ℕ → ℕ → Coded → List ℕ
stored ws i x = set (set (set ws (i * 3) x.code) (i * 3 + 1) x.first) (i * 3 + 2) x.second

-- ---- what a replay leaves

-- k places of the words were in use before and k' are now: no fewer, and past them every word is as it was
pub record PastKept (k k' : ℕ) (before after : List ℕ) : Type 0 where
  pub more : k ≤ k'
  pub same : length after ≡ length before
  pub past : drop (k' * 2) after ≡ drop (k' * 2) before

-- the lent words: rows, list, answers
pub record LogWords : Type 0 where
  pub rows : List ℕ
  pub list : List ℕ
  pub answers : List ℕ

abbrev pub log_words : List ℕ → List ℕ → List ℕ → LogWords
log_words rows list answers = record { rows = rows; list = list; answers = answers }

-- the log of all whole calls in the words
abbrev pub log_of : List ℕ → List (Option Call)
log_of calls = calls_of (length calls / 4) calls

-- what a replay gives: the record after the calls, or that the answers have no room for them
abbrev pub Replayed : Type 0
Replayed = Result Session NoRoom

-- whether a log was replayed, in three words
abbrev pub code_of_log : Replayed → Coded
code_of_log (Ok s) = coded 103 0 0
code_of_log (Err e) = coded 3 0 0

-- the record that is left: the one after the calls, or the given one
abbrev pub left_by : Replayed → Session → Session
left_by (Ok s) given = s
left_by (Err e) given = given

module _ (background calls : List ℕ) (s : Session) (before : LogWords) (s' : Session) (after : LogWords) where
  -- every call was made: record and words hold the machine's state after the log, the answers are the machine's, one after the
  -- other, and every word past those in use is as it was lent
  pub record AllMade : Type 0 where
    pub holds : state_of s' after.rows after.list background ≡ run (state_of s before.rows before.list background) (known (log_of calls))
    pub answers : after.answers ≡ answers_of (state_of s before.rows before.list background) (log_of calls) ++ drop (length calls / 4 * 3) before.answers
    pub rows : PastKept s.rows s'.rows before.rows after.rows
    pub list : PastKept s.rules s'.rules before.list after.list

-- nothing was done, as the answers have no room for all calls
pub record NoneMade (calls : List ℕ) (before after : LogWords) : Type 0 where
  pub short : length before.answers / 3 < length calls / 4
  pub same_words : after ≡ before

abbrev pub ReplaySays : List ℕ → List ℕ → Session → LogWords → LogWords → Replayed → Type 0
ReplaySays background calls s before after (Ok s') = AllMade background calls s before s' after
ReplaySays background calls s before after (Err e) = NoneMade calls before after

-- what a replay promises of the lent words: rows, list, background, calls, answers
abbrev pub Replays : Session → Words → Words → Words → Words → Words → Replayed → Type 0
Replays s rows list background calls answers =
    ReplaySays background.entry.now calls.entry.now s (log_words rows.entry.now list.entry.now answers.entry.now)
    (log_words rows.exit.now list.exit.now answers.exit.now)

-- the same, in three words: made (103), or no room (3), where the record is left as it was
abbrev pub ReplaysInWords : Session → Words → Words → Words → Words → Words → Coded → Session → Type 0
ReplaysInWords s rows list background calls answers x after =
    (log : Replayed) × (x ≡ code_of_log log) × (after ≡ left_by log s) × Replays s rows list background calls answers log

-- over a lent record, with the answer put where the caller says
abbrev pub ReplaysOn : Record → Words → Words → Words → Words → Words → LentAnswer → Type 0
ReplaysOn session rows list background calls answers answer =
    ReplaysInWords session.entry.now rows list background calls answers answer.exit.now session.exit.now

-- and whether the record changed
abbrev pub ReplaysCoded : Session → Words → Words → Words → Words → Words → Coded → Session → Bool → Type 0
ReplaysCoded s rows list background calls answers x after changed =
    ReplaysInWords s rows list background calls answers x after × (changed ≡ not (same_session s after))
