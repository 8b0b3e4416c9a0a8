-- What the calls with answers in three words promise: the opening, and every call over a lent record.
use Rattle.std.specs.Prelude.{◌≡◌, Bool, List, ℕ}
use Rattle.session.specs.declared.Session.{Session}
use Rattle.machine.specs.Machine.{Call, Opening, opened, rejected}
use Rattle.machine.specs.Calls.{state_of, Words, Record, Made, opening_from}
use Rattle.answer_words.specs.declared.Answer.{Answer as Coded}
use Rattle.answer_words.specs.Codes.{code_of, code_of_opening, is_opened, LentAnswer}

-- the record after an opening: with the lent words it holds the opened state; refused, it is the one that was given
abbrev pub OpeningLeaves : Session → Session → List ℕ → List ℕ → List ℕ → Opening → Type 0
OpeningLeaves given left rows list background (opened s) = state_of left rows list background ≡ s
OpeningLeaves given left rows list background (rejected r) = left ≡ given

-- What the coded opening promises: its answer and the record that it leaves are those of the plain machine's opening, with n attributes
-- and so many rows in use.
pub record OpensFrom (n used : ℕ) (before : Session) (rows list background : List ℕ) (x : Coded) (after : Session) : Type 0 where
  pub answer : x ≡ code_of_opening (opening_from n used rows list background)
  pub record_left : OpeningLeaves before after rows list background (opening_from n used rows list background)

-- the same, and whether the record changed
pub record OpensTo (n used : ℕ) (before : Session) (rows list background : List ℕ) (x : Coded) (after : Session) (changed : Bool) : Type 0 where
  pub opens : OpensFrom n used before rows list background x after
  pub change : changed ≡ is_opened (opening_from n used rows list background)

abbrev pub Opens : ℕ → ℕ → Session → Words → Words → Words → Coded → Session → Type 0
Opens n used before rows list background = OpensFrom n used before rows.entry.now list.entry.now background.entry.now

abbrev pub OpensCoded : ℕ → ℕ → Session → Words → Words → Words → Coded → Session → Bool → Type 0
OpensCoded n used before rows list background = OpensTo n used before rows.entry.now list.entry.now background.entry.now

-- ---- over a lent record, with the answer put where the caller says

abbrev pub AnswersOn : Call → Record → Words → Words → Words → LentAnswer → Type 0
AnswersOn c session rows list background answer =
    Made code_of c session.entry.now rows list background answer.exit.now session.exit.now

abbrev pub OpensOn : ℕ → ℕ → Record → Words → Words → Words → LentAnswer → Type 0
OpensOn n used session rows list background answer =
    Opens n used session.entry.now rows list background answer.exit.now session.exit.now
