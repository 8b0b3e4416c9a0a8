-- Document 01's example: its input, four rows over three properties, gives its output, whole; and an input that is refused.
-- `Proof` proves both by computing `output`.
use Rattle.std.specs.Prelude.{◌≡◌, List, [], ◌∷◌, ℕ}
use Rattle.table_layout.specs.Examples.{input, unknown}
use Rattle.transcript.specs.Output.{output}

-- the output, a line of it to a line
abbrev pub expected : List ℕ
expected =
    81 ∷ 32 ∷ 46 ∷ 46 ∷ 46 ∷ 32 ∷ 88 ∷ 88 ∷ 88 ∷ 32 ∷ 110 ∷ 111 ∷ 32 ∷ 49 ∷ 10 ∷
    81 ∷ 32 ∷ 46 ∷ 46 ∷ 46 ∷ 32 ∷ 88 ∷ 88 ∷ 46 ∷ 32 ∷ 110 ∷ 111 ∷ 32 ∷ 50 ∷ 10 ∷
    81 ∷ 32 ∷ 46 ∷ 46 ∷ 46 ∷ 32 ∷ 46 ∷ 88 ∷ 46 ∷ 32 ∷ 110 ∷ 111 ∷ 32 ∷ 52 ∷ 10 ∷
    81 ∷ 32 ∷ 46 ∷ 46 ∷ 88 ∷ 32 ∷ 88 ∷ 88 ∷ 46 ∷ 32 ∷ 110 ∷ 111 ∷ 32 ∷ 51 ∷ 10 ∷
    81 ∷ 32 ∷ 46 ∷ 46 ∷ 88 ∷ 32 ∷ 46 ∷ 88 ∷ 46 ∷ 32 ∷ 121 ∷ 101 ∷ 115 ∷ 10 ∷
    81 ∷ 32 ∷ 88 ∷ 46 ∷ 46 ∷ 32 ∷ 46 ∷ 88 ∷ 46 ∷ 32 ∷ 121 ∷ 101 ∷ 115 ∷ 10 ∷
    76 ∷ 32 ∷ 46 ∷ 46 ∷ 88 ∷ 32 ∷ 46 ∷ 88 ∷ 46 ∷ 10 ∷
    76 ∷ 32 ∷ 88 ∷ 46 ∷ 46 ∷ 32 ∷ 46 ∷ 88 ∷ 46 ∷ 10 ∷
    69 ∷ 78 ∷ 68 ∷ 32 ∷ 50 ∷ 32 ∷ 52 ∷ 32 ∷ 54 ∷ 10 ∷ []

-- the output of the second: 29 at the offset of the line of marks, and nothing else
abbrev pub unknown_expected : List ℕ
unknown_expected = 69 ∷ 32 ∷ 50 ∷ 57 ∷ 32 ∷ 49 ∷ 52 ∷ 10 ∷ []

pub record Example : Type 0 where
  pub whole : output input ≡ expected
  pub refused : output unknown ≡ unknown_expected
