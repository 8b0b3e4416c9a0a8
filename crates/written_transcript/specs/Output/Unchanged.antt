-- The transcript is unchanged: for every input, and whatever places are lent, the program's output is the one by written marks, that is,
-- as it was before request 5/13 of document 02. There is no condition on the file: an interview is of a complete table, whose rows count
-- as having and lacking just what is written, and any other file is refused alike.
use Rattle.std.specs.Prelude.{◌≡◌, List, ℕ}
use Rattle.machine.specs.Checks.{Lent}
use Rattle.transcript.specs.Output.{output_with, output}
use Rattle.written_transcript.specs.Output.{written_output_with, written_output}

pub record Unchanged : Type 0 where
  pub with_places : (lent : Lent) (file : List ℕ) → output_with lent file ≡ written_output_with lent file
  pub output : (file : List ℕ) → output file ≡ written_output file
