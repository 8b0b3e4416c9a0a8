-- What a beat of an interview is, and its end, in the terms of the definition (01, "The program").
use Rattle.std.specs.Prelude.{ℕ, ◌*◌, ◌≤◌, length}
use Rattle.machine.specs.Calls.{Words}
use Rattle.text.specs.Page.{Buffer, Puts}
use Rattle.transcript.specs.Output.{closing}
use Rattle.transcript.specs.Core.{core_beat}
use Rattle.interview_replies.specs.declared.Interview.{Interview}
use Rattle.interview_replies.specs.declared.Beaten.{Beaten}
use Rattle.interview_replies.specs.Holding.{held, Beats}
use Rattle.table_replies.specs.Reply.{tabled, Fitting}

-- the call writes the end
abbrev pub WritesEnd : Interview → Words → Words → Buffer → ℕ → ℕ → Type 0
WritesEnd i rows list out at r = i.rules * 2 ≤ length list.entry.now → Puts out at r (closing (held i rows list) i.changes)

-- the call is the whole beat
abbrev pub Advances : ℕ → Words → Interview → Words → Words → Buffer → ℕ → Beaten → Type 0
Advances objects table i rows list out at r =
    Fitting i objects table rows list → Beats (core_beat (tabled objects table) (held i rows list) i.changes) rows list out at r
