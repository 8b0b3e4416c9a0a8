-- How the session record and the lent words hold a state of the plain machine, and what a call of the code promises (01, "What a
-- call commits to"): it is that call of the plain machine, and no lent word changes but the two that an accepted reply, filing or filling
-- writes.
use Rattle.std.specs.Prelude.{◌≡◌, Bool, true, false, List, ℕ, ◌+◌, ◌*◌, length, set}
use Rattle.session.specs.declared.Session.{Session}
use Rattle.implication.specs.Closure.{implications_of, all_implications}
use Rattle.context.specs.Objects.{objects_of}
use Rattle.context.specs.Filling.{joined, object_at}
use Rattle.context.specs.Parts.{Lent}
pub use Rattle.context.specs.Parts.{Words}
use Rattle.machine.specs.Checks.{State, question}
use Rattle.machine.specs.Machine.{Call, step, accept, reject, follow, refute, test, file, fill, Answer, finished, moved, asked, taken, followed, refuted, unrefuted, refuting, refused, perform, Opening, opening}

-- ---- states

-- the state that a record and the lent words hold: rows, list, background
abbrev pub state_of : Session → List ℕ → List ℕ → List ℕ → State
state_of s rows list background = record {
  n = s.n;
  lent = record { rows = length rows; list = length list; background = length background };
  background = all_implications background;
  rows = objects_of s.rows rows;
  list = implications_of s.rules list;
  current = s.current;
}

-- a lent record, at the same two moments
abbrev pub Record : Type 0
Record = Lent Session

-- the state that a call is given: rows, list, background
abbrev pub given : Session → Words → Words → Words → State
given s rows list background = state_of s rows.entry.now list.entry.now background.entry.now

-- ---- the lent words after a call: on a refusal as they were, after an accepted reply or filing with the two words of the next place set, after
-- an accepted filling with those of its row

abbrev pub put_pair : Answer → ℕ → ℕ → ℕ → List ℕ → List ℕ
put_pair finished k a b ws = ws
put_pair moved k a b ws = ws
put_pair (asked q) k a b ws = ws
put_pair taken k a b ws = set (set ws (k * 2) a) (k * 2 + 1) b
put_pair (followed x) k a b ws = ws
put_pair (refuted p) k a b ws = ws
put_pair unrefuted k a b ws = ws
put_pair refuting k a b ws = ws
put_pair (refused r) k a b ws = ws

-- the row words after a call with this answer: a no and a filing write the offered row, a filling its row with the offered marks added
abbrev pub rows_by : Call → Answer → State → List ℕ → List ℕ
rows_by step a s ws = ws
rows_by accept a s ws = ws
rows_by (reject o) a s ws = put_pair a (length s.rows) o.yes_marks o.no_marks ws
rows_by (follow r) a s ws = ws
rows_by (refute r) a s ws = ws
rows_by (test o) a s ws = ws
rows_by (file o) a s ws = put_pair a (length s.rows) o.yes_marks o.no_marks ws
rows_by (fill k m) a s ws = put_pair a k (joined (object_at s.rows k) m).yes_marks (joined (object_at s.rows k) m).no_marks ws

-- the list words after it: a yes writes the question
abbrev pub list_by : Call → Answer → State → List ℕ → List ℕ
list_by step a s ws = ws
list_by accept a s ws = put_pair a (length s.list) (question s).premise (question s).conclusion ws
list_by (reject o) a s ws = ws
list_by (follow r) a s ws = ws
list_by (refute r) a s ws = ws
list_by (test o) a s ws = ws
list_by (file o) a s ws = ws
list_by (fill k m) a s ws = ws

-- after a call of the plain machine
abbrev pub rows_after : Call → State → List ℕ → List ℕ
rows_after c s ws = rows_by c (perform s c).answer s ws

abbrev pub list_after : Call → State → List ℕ → List ℕ
list_after c s ws = list_by c (perform s c).answer s ws

-- ---- what a call promises

-- The call is that call of the plain machine: its answer, said in the caller's terms; the state that record and words then hold; and
-- every lent word. From rows, list and background to the rows and the list that it leaves.
pub record MadeFrom {X : Type 0} (says : Answer → X) (c : Call) (s : Session) (rows list background : List ℕ) (x : X) (after : Session) (rows' list' : List ℕ) : Type 0 where
  pub answer : x ≡ says (perform (state_of s rows list background) c).answer
  pub state : state_of after rows' list' background ≡ (perform (state_of s rows list background) c).after
  pub rows_written : rows' ≡ rows_after c (state_of s rows list background) rows
  pub list_written : list' ≡ list_after c (state_of s rows list background) list

abbrev pub Made : {X : Type 0} → (Answer → X) → Call → Session → Words → Words → Words → X → Session → Type 0
Made says c s rows list background x after =
    MadeFrom says c s rows.entry.now list.entry.now background.entry.now x after rows.exit.now list.exit.now

-- whether an answer says that the state changed: a move, and an accepted reply, filing or filling
abbrev pub changes : Answer → Bool
changes finished = false
changes moved = true
changes (asked q) = false
changes taken = true
changes (followed b) = false
changes (refuted p) = false
changes unrefuted = false
changes refuting = false
changes (refused r) = false

-- the same of a call that gives back a record, and says besides whether it changed; a filling gives none back, as its record stays
pub record TurnedFrom {X : Type 0} (says : Answer → X) (c : Call) (s : Session) (rows list background : List ℕ) (x : X) (after : Session) (rows' list' : List ℕ) (changed : Bool)
    : Type 0 where
  pub made : MadeFrom says c s rows list background x after rows' list'
  pub change : changed ≡ changes (perform (state_of s rows list background) c).answer

abbrev pub Turned : {X : Type 0} → (Answer → X) → Call → Session → Words → Words → Words → X → Session → Bool → Type 0
Turned says c s rows list background x after =
    TurnedFrom says c s rows.entry.now list.entry.now background.entry.now x after rows.exit.now list.exit.now

-- in the machine's own terms
abbrev pub Turns : Call → Session → Words → Words → Words → Answer → Session → Bool → Type 0
Turns = Turned (λ (a : Answer). a)

abbrev pub Performs : Call → Session → Words → Words → Words → Answer → Session → Type 0
Performs = Made (λ (a : Answer). a)

-- the same over a lent record
abbrev pub PerformsOn : Call → Record → Words → Words → Words → Answer → Type 0
PerformsOn c session rows list background x = Performs c session.entry.now rows list background x session.exit.now

-- what the plain machine opens with: n, so many rows in use, and the lent words
abbrev pub opening_from : ℕ → ℕ → List ℕ → List ℕ → List ℕ → Opening
opening_from n used rows list background =
    opening n (record { rows = length rows; list = length list; background = length background })
    (all_implications background) (objects_of used rows)
