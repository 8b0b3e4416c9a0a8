-- How the record of an interview and the lent words hold a state of the plain machine, and what a beat of the code leaves, in the
-- terms of the definition (01, "The program").
use Rattle.std.specs.Prelude.{◌≡◌, Option, Some, None, List, [], ℕ}
use Rattle.implication.specs.Closure.{implication}
use Rattle.context.specs.Objects.{Object}
use Rattle.machine.specs.Checks.{State}
use Rattle.machine.specs.Calls.{state_of, Words}
use Rattle.text.specs.Page.{Page, page, text, Buffer}
use Rattle.transcript.specs.Output.{Beat, more, last}
use Rattle.transcript.specs.Core.{core_no, core_yes}
use Rattle.interview_replies.specs.declared.Interview.{Interview}
use Rattle.interview_replies.specs.declared.Beaten.{Beaten}

-- ---- states

-- the state that the record and the words of rows and list hold, with no background
abbrev pub holding : Interview → List ℕ → List ℕ → State
holding i rows list = state_of (record { n = i.n; rows = i.rows; rules = i.rules; current = i.current }) rows list []

-- the state that a beat is given
abbrev pub held : Interview → Words → Words → State
held i rows list = holding i rows.entry.now list.entry.now

-- ---- what a beat leaves

-- what a beat writes
abbrev pub line_written : Beat → List ℕ
line_written (more line s changes) = line
line_written (last line) = line

-- a beat that writes this line and goes on with an interview, or is the last
abbrev pub going : Option Interview → List ℕ → List ℕ → List ℕ → Beat
going None line rows list = last line
going (Some i) line rows list = more line (holding i rows list) i.changes

abbrev pub beat_of : Beaten → List ℕ → List ℕ → List ℕ → Beat
beat_of b line rows list = going b.next line rows list

-- the record and the words hold what this beat goes on with, and its line is written
pub record Leaves (b : Beat) (r : Beaten) (rows list : List ℕ) (before after : Page) : Type 0 where
  pub state : beat_of r (line_written b) rows list ≡ b
  pub line : after ≡ text before (line_written b)

-- the call is this beat: what it leaves in the record, the words of rows and list, and the buffer from the offset `at` on
abbrev pub Beats : Beat → Words → Words → Buffer → ℕ → Beaten → Type 0
Beats b rows list out at r = Leaves b r rows.exit.now list.exit.now (page out.entry.now at) (page out.exit.now r.at)

-- ---- the replies

-- no to the question from the current set to this conclusion, with a row of the table and its number
abbrev pub no_beat : Interview → Words → Words → ℕ → ℕ → Object → Beat
no_beat i rows list conclusion number o = core_no (held i rows list) i.changes (implication i.current conclusion) number o

-- yes to it
abbrev pub yes_beat : Interview → Words → Words → ℕ → Beat
yes_beat i rows list conclusion = core_yes (held i rows list) i.changes (implication i.current conclusion)
