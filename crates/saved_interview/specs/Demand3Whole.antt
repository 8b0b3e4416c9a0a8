-- Demand 3, whole, about the calls that run: for every n, background, rows in use and lent words that `session_opening::open` accepts,
-- and every list of calls that `replay` then makes through the public calls, with any arguments, refused ones included.
-- Points 1 to 5 in the order of document 01; `Theorem` proves them from the contract of `replay` and the machine's theorems.
use Rattle.std.specs.Prelude.{◌≡◌, ◌↔◌, true, false, List, ◌++◌, ℕ, ◌+◌, ◌*◌, ◌/◌, ◌≤◌, ◌<◌, length, get_or, drop}
use Rattle.theory.specs.Lists.{All}
use Rattle.theory.specs.Implications.{Implication}
use Rattle.implication.specs.Closure.{implications_of, all_implications, follows}
use Rattle.context.specs.Objects.{Object, objects_of, refutes}
use Rattle.machine.specs.Checks.{State}
use Rattle.machine.specs.Machine.{Call, run, opened}
use Rattle.demands.specs.Replies.{agreed_in, offered_in, filled_by, FillsOther, replies, Truthful}
use Rattle.demands.specs.Demand3.{Finished, OverM, SameConsequences}
use Rattle.machine.specs.Calls.{state_of, opening_from}
use Rattle.call_logs.specs.Replay.{known, answers_of, log_of, PastKept, log_words, AllMade}
use Rattle.session.specs.declared.Session.{Session}

-- an interview over n attributes and lent background words: what was lent, the record that the opening gave, the words of the
-- calls, and the record and words that replaying them left
pub record Interview (n : ℕ) (background : List ℕ) : Type 0 where
  pub used : ℕ
  pub rows : List ℕ
  pub list : List ℕ
  pub answers : List ℕ
  pub calls : List ℕ
  pub start : Session
  pub end : Session
  pub rows_later : List ℕ
  pub list_later : List ℕ
  pub answers_after : List ℕ
  -- the opening accepted: what the contract of `session_opening::open` says where it answers Ok
  pub opens : opened (state_of start rows list background) ≡ opening_from n used rows list background
  -- the calls were made: what the contract of `replay` says where it answers Ok
  pub made : AllMade background calls start (log_words rows list answers) end (log_words rows_later list_later answers_after)

module _ {n : ℕ} {background : List ℕ} (i : Interview n background) where
  abbrev pub state_opened : State
  state_opened = state_of i.start i.rows i.list background

  abbrev pub end_state : State
  end_state = state_of i.end i.rows_later i.list_later background

  -- the calls, without those of unknown kind, which change nothing
  abbrev pub script : List Call
  script = known (log_of i.calls)

  -- the rules of the background, and the rows and the list that the lent words hold in their first places at the end
  abbrev pub rules : List (Implication ℕ)
  rules = all_implications background

  abbrev pub end_rows : List Object
  end_rows = objects_of i.end.rows i.rows_later

  abbrev pub end_list : List (Implication ℕ)
  end_list = implications_of i.end.rules i.list_later

-- row k has the words that it had
abbrev pub SameRow : ℕ → List ℕ → List ℕ → Type 0
SameRow k before after = (get_or after (k * 2) 0 ≡ get_or before (k * 2) 0) × (get_or after (k * 2 + 1) 0 ≡ get_or before (k * 2 + 1) 0)

pub record Demand3Whole {n : ℕ} {background : List ℕ} (i : Interview n background) : Type 0 where
  -- 1. simulation: record and words hold the plain machine's state; n is the opening's; the answers are the machine's, one after the other; every
  -- word past those in use is as it was lent, and so are the words of a row in use at the opening that no accepted filling names
  pub simulated : end_state i ≡ run (state_opened i) (script i)
  pub same_n : i.end.n ≡ n
  pub answered : i.answers_after ≡ answers_of (state_opened i) (log_of i.calls) ++ drop (length i.calls / 4 * 3) i.answers
  pub rows_past : PastKept i.start.rows i.end.rows i.rows i.rows_later
  pub list_past : PastKept i.start.rules i.end.rules i.list i.list_later
  pub rows_kept : (k : ℕ) → k < i.used → All (FillsOther k) (replies (state_opened i) (script i)) → SameRow k i.rows i.rows_later
  -- 2. the rows are those in use at the opening, then the offered rows of the accepted no calls and filings in order, each with the marks of
  -- the accepted fillings of its number; the list is the questions of the accepted yes calls in order
  pub all_rows : end_rows i
      ≡ filled_by (replies (state_opened i) (script i)) (objects_of i.used i.rows ++ offered_in (replies (state_opened i) (script i)))
  pub all_list : end_list i ≡ agreed_in (replies (state_opened i) (script i))
  -- 3. decided: if a step now answers Finished, a rule over M follows from background and list just if no row refutes it, by implied marks
  pub decided : Finished (end_state i) → (r : Implication ℕ) → OverM n r
      → (follows (rules i ++ end_list i) r ≡ true) ↔ All (λ o. refutes (rules i ++ end_list i) o r ≡ false) (end_rows i)
  -- 4. shortest, finished or not: a list over M with the same consequences has at least as many rules as the record counts
  pub shortest : (l : List (Implication ℕ)) → All (OverM n) l → SameConsequences n (rules i) (end_list i) l → i.end.rules ≤ length l

-- 5. same list: two finished interviews with the same n and background, truthful to one complete table, count the same rules and
-- hold the same list; opening rows, calls and lent words may differ
pub record SameLists {n : ℕ} {background : List ℕ} (i j : Interview n background) : Type 0 where
  pub count : i.end.rules ≡ j.end.rules
  pub list : end_list i ≡ end_list j

abbrev pub SameListWhole : ℕ → List ℕ → Type 0
SameListWhole n background =
    (i j : Interview n background) → Finished (end_state i) → Finished (end_state j) → (t : List Object) → Truthful t (state_opened i) (script i)
    → Truthful t (state_opened j) (script j) → SameLists i j
