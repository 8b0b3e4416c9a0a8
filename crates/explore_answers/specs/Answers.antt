-- What the program explore answers to the bytes that it has read (01, "The program").
use Rattle.std.specs.Prelude.{ℕ}
use Rattle.text.specs.Page.{Buffer, Bytes}
use Rattle.handed_output.specs.declared.Told.{Told}
use Rattle.table_layout.specs.Layout.{input_most}
use Rattle.transcript.specs.Output.{output}
use Rattle.standard_streams.specs.Answers.{AnswersIn}

-- the buffer holds the first 65,536 bytes of the input, so many of its bytes: the text is the program's output for that input
abbrev pub Answers : Bytes → ℕ → Buffer → Told → Type 0
Answers file size out r = AnswersIn output input_most file.entry.now size out.entry.now out.exit.now r
