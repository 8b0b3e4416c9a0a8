-- Document 01's input gives the six lines of request 3/13, whole; an unknown mark passes, and is not yes; a refused file gives its E line
-- alone. All three are computed.
use Rattle.std.specs.Prelude.{◌≡◌, refl, List, [], ◌∷◌, ℕ}
use Rattle.attribute_set.specs.Sets.{inside, without}
use Rattle.attribute_set.specs.Passing.{passing}
use Rattle.table_lines.specs.Lines.{line_of}
use Rattle.line_bytes.specs.Everywhere.{everywhere}
use Rattle.table_counts.specs.Counts.{decimal_from, is_count, count_of}
use Rattle.line_faults.specs.Faults.{fault}
use Rattle.line_walk.specs.Walk.{line_fault, walk}
use Rattle.table_walk.specs.Walk.{rest}
use Rattle.table_layout.specs.Layout.{layout_of, opened_of}
use Rattle.table_layout.specs.Examples.{input, unknown}
use Rattle.table_rows.specs.Rows.{word_of, rows_from}
use Rattle.text.specs.Text.{digits, set_text}
use Rattle.nearly_always.specs.Nearly.{having, exceeds, nearly_always}
use Rattle.short_premises.specs.Premises.{pairs_with, premises_below}
use Rattle.nearly_lines.specs.Lines.{nearly_lines}
use Rattle.nearly_output.specs.Output.{nearly_output}

-- the output, a line of it to a line
abbrev pub expected : List ℕ
expected =
    78 ∷ 32 ∷ 46 ∷ 46 ∷ 88 ∷ 32 ∷ 46 ∷ 88 ∷ 46 ∷ 10 ∷
    78 ∷ 32 ∷ 46 ∷ 88 ∷ 46 ∷ 32 ∷ 46 ∷ 46 ∷ 46 ∷ 10 ∷
    78 ∷ 32 ∷ 46 ∷ 88 ∷ 88 ∷ 32 ∷ 46 ∷ 46 ∷ 46 ∷ 10 ∷
    78 ∷ 32 ∷ 88 ∷ 46 ∷ 46 ∷ 32 ∷ 46 ∷ 88 ∷ 46 ∷ 10 ∷
    78 ∷ 32 ∷ 88 ∷ 46 ∷ 88 ∷ 32 ∷ 46 ∷ 46 ∷ 46 ∷ 10 ∷
    78 ∷ 32 ∷ 88 ∷ 88 ∷ 46 ∷ 32 ∷ 46 ∷ 46 ∷ 46 ∷ 10 ∷ []

-- of one row over two properties, the second mark unknown, the lines of {1}, {0} and both: nothing is listed
abbrev pub unknown_expected : List ℕ
unknown_expected =
    78 ∷ 32 ∷ 46 ∷ 88 ∷ 32 ∷ 46 ∷ 46 ∷ 10 ∷
    78 ∷ 32 ∷ 88 ∷ 46 ∷ 32 ∷ 46 ∷ 46 ∷ 10 ∷
    78 ∷ 32 ∷ 88 ∷ 88 ∷ 32 ∷ 46 ∷ 46 ∷ 10 ∷ []

-- the letter alone, and its refusal: the title is missing
abbrev pub letter : List ℕ
letter = 66 ∷ 10 ∷ []

abbrev pub letter_expected : List ℕ
letter_expected = 69 ∷ 32 ∷ 50 ∷ 53 ∷ 32 ∷ 50 ∷ 10 ∷ []

pub record Example : Type 0 where
  pub whole : nearly_output input ≡ expected
  pub passes : nearly_output unknown ≡ unknown_expected
  pub refused : nearly_output letter ≡ letter_expected

pub example : Example
unfolding inside without line_of everywhere decimal_from is_count count_of fault line_fault walk rest layout_of opened_of word_of rows_from digits set_text having exceeds passing nearly_always pairs_with premises_below nearly_lines nearly_output
example = record { whole = refl; passes = refl; refused = refl }
