-- What only one number has.
use Rattle.std.specs.Prelude.{◌≡◌, List, [], ◌++◌, ℕ}
use Rattle.std.proofs.Common.{eq-eqb, ne_eqb}
use Rattle.text.specs.Text.{number_text, space}
use Rattle.table_header.specs.Header.{attribute_count}
use Rattle.refusal_words.specs.Words.{bytes}
use Rattle.file_mistakes.specs.Mistakes.{looks_like, mistake_phrase}
use Rattle.expected_phrases.specs.Expected.{marks_text, mistake_text}

pub marks-27 : (file : List ℕ) (number : ℕ) → number ≡ 27 → marks_text file number ≡ number_text (attribute_count file) ++ space
marks-27 file number e = rw (eq-eqb number 27 e, marks_text)

pub marks-other : (file : List ℕ) (number : ℕ) → (number ≡ 27 → ⊥) → marks_text file number ≡ []
marks-other file number e = rw (ne_eqb number 27 e, marks_text)

pub mistake-22 : (file : List ℕ) (number : ℕ) → number ≡ 22 → mistake_text file number ≡ bytes "; " ++ mistake_phrase (looks_like file)
mistake-22 file number e = rw (eq-eqb number 22 e, mistake_text)

pub mistake-other : (file : List ℕ) (number : ℕ) → (number ≡ 22 → ⊥) → mistake_text file number ≡ []
mistake-other file number e = rw (ne_eqb number 22 e, mistake_text)
