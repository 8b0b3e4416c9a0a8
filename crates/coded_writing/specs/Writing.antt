-- The writer's answers in three words, a code and two values (02, request 2/13): the number of bytes is answered as an accepted reply is;
-- a refusal has its own number and its place.
use Rattle.std.specs.Prelude.{◌≡◌, ℕ, Result, Ok, Err}
use Rattle.session.specs.declared.Refusal.{Refusal}
use Rattle.text.specs.Page.{Buffer, Bytes as LentBytes}
use Rattle.machine.specs.Calls.{Words}
use Rattle.answer_words.specs.declared.Answer.{Answer as Coded}
use Rattle.answer_words.specs.Codes.{coded}
use Rattle.table_writing.specs.Writing.{Writes}

abbrev pub code_of_written : Result ℕ Refusal → Coded
code_of_written (Ok size) = coded 103 size 0
code_of_written (Err r) = coded r.number r.place 0

-- the words say what writing answers, over the lent slices: row words, names, output
abbrev pub WritesCoded : ℕ → ℕ → Words → LentBytes → Buffer → Coded → Type 0
WritesCoded n used rows names out x = (w : Result ℕ Refusal) × (x ≡ code_of_written w) × Writes n used rows names out w
