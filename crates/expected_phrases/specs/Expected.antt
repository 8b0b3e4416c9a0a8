-- What was expected where a table file is refused (the words are not 01's): a phrase for each number, with how many marks a line has, and the
-- mistake that the file looks like.
use Rattle.std.specs.Prelude.{true, false, List, [], ◌∷◌, ◌++◌, ℕ, ◌-◌, eqb}
use Prim.Native.String as string
use Rattle.text.specs.Text.{number_text, space}
use Rattle.refusal_words.specs.Words.{bytes, joined, line_number}
use Rattle.table_header.specs.Header.{attribute_count}
use Rattle.file_mistakes.specs.Mistakes.{looks_like, mistake_phrase}

-- what was expected, a phrase for each number from 21 on; none before and behind
abbrev pub phrases : List ℕ
phrases =
    joined ""
    (
    "no more than 65,535 bytes expected" ∷
    "B alone expected" ∷
    "1 to 4 digits expected" ∷
    "at most 512 rows, 1 to 64 properties expected" ∷
    "a title of at most 80 bytes, an empty line 5 expected" ∷
    "a name of 1 to 80 bytes expected" ∷
    string.◌++◌ "marks out of X x . ?" " expected" ∷
    "the end of the file expected" ∷
    "marks out of X x . expected" ∷
    []
    )

abbrev pub phrase : ℕ → List ℕ
phrase number = line_number (number - 20) phrases

-- before the phrase of 27, how many marks a line has; behind the phrase of 22, the mistake
abbrev pub marks_text : List ℕ → ℕ → List ℕ
marks_text file number = elim (eqb number 27) [ true ↦ number_text (attribute_count file) ++ space | false ↦ [] ]

abbrev pub mistake_text : List ℕ → ℕ → List ℕ
mistake_text file number = elim (eqb number 22) [ true ↦ bytes "; " ++ mistake_phrase (looks_like file) | false ↦ [] ]

-- the number of marks, the phrase, the mistake
abbrev pub expected_text : List ℕ → ℕ → List ℕ
expected_text file number = marks_text file number ++ (phrase number ++ mistake_text file number)
