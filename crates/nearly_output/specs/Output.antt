-- The whole output of the program `nearly`, from the bytes of standard input to the bytes written (02, request 3/13): for a table file, in
-- which unknown marks pass, the line of each premise of one or two attributes, at 80 per cent; for a refused file its E line alone.
use Rattle.std.specs.Prelude.{List, ℕ, Result, Ok, Err}
use Rattle.session.specs.declared.Refusal.{Refusal}
use Rattle.table_layout.specs.Layout.{input_most, opened_of}
use Rattle.table_layout.specs.declared.Layout.{Layout}
use Rattle.table_rows.specs.Rows.{rows_from}
use Rattle.text.specs.Page.{Buffer, Bytes}
use Rattle.closing_lines.specs.Closing.{refusal_line}
use Rattle.handed_output.specs.declared.Told.{Told}
use Rattle.standard_streams.specs.Answers.{AnswersIn}
use Rattle.short_premises.specs.Premises.{premises}
use Rattle.nearly_lines.specs.Lines.{nearly_lines}
pub mod Example

-- the percentage that the program lists at
abbrev pub percentage : ℕ
percentage = 80

-- the lines of a table
abbrev pub table_lines : List ℕ → Layout → List ℕ
table_lines file l = nearly_lines l.attributes percentage (rows_from l.objects file l.marks) (premises l.attributes)

-- what is written, by what the file opens as
abbrev pub written : List ℕ → Result Layout Refusal → List ℕ
written file (Ok l) = table_lines file l
written file (Err r) = refusal_line r

-- the program's output
unfoldable pub nearly_output : List ℕ → List ℕ
nearly_output file = written file (opened_of file)

-- no output is longer than these bytes: 2,080 lines of 132 (`Laws`)
abbrev pub nearly_most : ℕ
nearly_most = 274560

-- the buffer holds the first 65,536 bytes of the input, so many of its bytes: the text is the program's output for that input
abbrev pub Answers : Bytes → ℕ → Buffer → Told → Type 0
Answers file size out r = AnswersIn nearly_output input_most file.entry.now size out.entry.now out.exit.now r
