-- What is said of a refused table file (the words are not 01's): the line and what was expected there, and the sentence of the refusal.
use Rattle.std.specs.Prelude.{List, [], ◌++◌, ℕ, Result, Ok, Err}
use Rattle.session.specs.declared.Refusal.{Refusal}
use Rattle.table_layout.specs.declared.Layout.{Layout}
use Rattle.text.specs.Text.{number_text, newline}
use Rattle.refusal_words.specs.Words.{bytes, sentence}
use Rattle.complete_tables.specs.Complete.{opened_complete}
use Rattle.line_numbers.specs.Numbers.{number_of_line}
use Rattle.expected_phrases.specs.Expected.{expected_text}

-- `line N: `
abbrev pub line_text : ℕ → List ℕ
line_text line = bytes "line " ++ (number_text line ++ bytes ": ")

-- the sentence of a refusal, as a line
abbrev pub sentence_line : ℕ → List ℕ
sentence_line number = sentence number ++ newline

-- the report of a refusal: two lines
unfoldable pub report : List ℕ → ℕ → ℕ → List ℕ
report file number place =
    line_text (number_of_line file place) ++ (expected_text file number ++ (newline ++ sentence_line number))

-- why a file is refused where a complete table is asked for; nothing where it is not
abbrev pub explanation_of : List ℕ → Result Layout Refusal → List ℕ
explanation_of file (Ok l) = []
explanation_of file (Err r) = report file r.number r.place

abbrev pub explanation : List ℕ → List ℕ
explanation file = explanation_of file (opened_complete file)
