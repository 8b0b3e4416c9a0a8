-- The rows of a table file read into lent row words (01, "The table file": 2 is tested before 21, too few places after 28).
use Rattle.std.specs.Prelude.{true, false, List, [], ◌∷◌, ◌++◌, ℕ, ◌*◌, ◌/◌, length, drop, ltb, Result, Ok, Err}
use Rattle.session.specs.declared.Refusal.{Refusal}
use Rattle.session.specs.Refusals.{refusal}
use Rattle.context.specs.Objects.{Object}
use Rattle.session.specs.Limits.{most_objects, bad_length}
use Rattle.table_layout.specs.Layout.{opened_of}
use Rattle.table_layout.specs.declared.Layout.{Layout}
use Rattle.found_layout.specs.Found.{opened_as}
use Rattle.table_rows.specs.Rows.{rows_from}
use Rattle.complete_tables.specs.Complete.{opened_complete}

-- rows as words: two to a row
unfoldable pub flat : List Object → List ℕ
flat [] = []
flat (o ∷ os) = o.yes_marks ∷ o.no_marks ∷ flat os

-- ---- reading into lent row words

-- 3 where there are too few places
abbrev pub reading_from : ℕ → Result Layout Refusal → Result Layout Refusal
reading_from words (Ok l) = elim (ltb (words / 2) l.objects) [ true ↦ Err (refusal 3 0) | false ↦ Ok l ]
reading_from words (Err r) = Err r

-- 2 first, then what the file was opened as, then 3
unfoldable pub reading_of : ℕ → Result Layout Refusal → Result Layout Refusal
reading_of words opened = elim (bad_length most_objects words) [ true ↦ Err (refusal 2 0) | false ↦ reading_from words opened ]

-- 2 first, then 21 to 28, then 3
abbrev pub reading : ℕ → List ℕ → Result Layout Refusal
reading words file = reading_of words (opened_of file)

-- of an opened table: 2 first, then 21 to 28, then 3 for its layout, then 3 for too few places
abbrev pub reading_as : Layout → ℕ → List ℕ → Result Layout Refusal
reading_as l words file = reading_of words (opened_as l (opened_of file))

-- of a table that has to be complete: 2 first, then 21 to 28, then 29, then 3
abbrev pub complete_reading : ℕ → List ℕ → Result Layout Refusal
complete_reading words file = reading_of words (opened_complete file)

-- the row words after reading: the rows, then the words past them as they were; on a refusal all as they were
abbrev pub words_of_rows : Result Layout Refusal → List ℕ → List ℕ → List ℕ
words_of_rows (Ok l) file words = flat (rows_from l.objects file l.marks) ++ drop (l.objects * 2) words
words_of_rows (Err r) file words = words

abbrev pub words_read : List ℕ → List ℕ → List ℕ
words_read file words = words_of_rows (reading (length words) file) file words

abbrev pub complete_words_read : List ℕ → List ℕ → List ℕ
complete_words_read file words = words_of_rows (complete_reading (length words) file) file words
