-- What the table's reply to a question asks of the words it is lent, and what it is, in the terms of the definition (01, "The program").
use Rattle.std.specs.Prelude.{List, ℕ, ◌*◌, ◌≤◌, length}
use Rattle.implication.specs.Closure.{implication}
use Rattle.context.specs.Objects.{Object, objects_of}
use Rattle.session.specs.Limits.{most_attributes}
use Rattle.machine.specs.Calls.{Words}
use Rattle.text.specs.Page.{Buffer}
use Rattle.transcript.specs.Core.{core_reply}
use Rattle.interview_replies.specs.declared.Interview.{Interview}
use Rattle.interview_replies.specs.declared.Beaten.{Beaten}
use Rattle.interview_replies.specs.Holding.{held, Beats}

-- the rows of the table that a beat is lent
abbrev pub tabled : ℕ → Words → List Object
tabled objects table = objects_of objects table.entry.now

-- a word has an attribute for each, and the lent words have what is in use: table, rows, list
pub record Fits (i : Interview) (objects : ℕ) (table rows list : List ℕ) : Type 0 where
  pub attributes : i.n ≤ most_attributes
  pub in_table : objects * 2 ≤ length table
  pub in_rows : i.rows * 2 ≤ length rows
  pub in_list : i.rules * 2 ≤ length list

-- all of it fits, as a beat is given it
abbrev pub Fitting : Interview → ℕ → Words → Words → Words → Type 0
Fitting i objects table rows list = Fits i objects table.entry.now rows.entry.now list.entry.now

-- the call is the table's reply to the question with this conclusion
abbrev pub Replies : ℕ → Words → Interview → Words → Words → ℕ → Buffer → ℕ → Beaten → Type 0
Replies objects table i rows list conclusion out at r =
    Fitting i objects table rows list
    → Beats (core_reply (tabled objects table) (held i rows list) i.changes (implication i.current conclusion)) rows list out at r
