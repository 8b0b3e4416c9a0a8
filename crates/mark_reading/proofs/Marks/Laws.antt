-- Computed cases (`cases`). The words that are written hold the rows (`rows-held`), and the rows of a part of the file are the file's
-- (`rows-from`). What a reading answers (`reading-bad`, `reading-fine`, `reading-short`, `reading-whole`), what it says where it finds a
-- table (`accepts`), and that with row words for all the rows that a session has it answers what the file was opened as (`reading-all`,
-- `complete-reading`, `complete-words`). An opened table is read as its file is just where its layout is the one that reading the file
-- finds (`reading-as`, `reading-other`).
use Rattle.std.specs.Prelude.{◌≡◌, refl, Bool, true, false, List, [], ◌∷◌, ◌++◌, ℕ, zero, suc, ◌-◌, ◌≤◌, ◌<◌, ◌+◌, ◌*◌, ◌/◌, length, drop, take, ltb, Result, Ok, Err}
use Rattle.std.proofs.Common.{sym, ◌∙◌, ap, ltb-false, lt-ltb, le-ltb, add-zero, arith}
use Rattle.session.specs.declared.Refusal.{Refusal}
use Rattle.session.specs.Refusals.{refusal}
use Rattle.line_bytes.specs.Everywhere.{everywhere}
use Rattle.table_counts.specs.Counts.{decimal_from, is_count, count_of}
use Rattle.line_faults.specs.Faults.{fault}
use Rattle.table_lines.specs.Lines.{line_of, bytes_at, after}
use Rattle.table_layout.specs.Layout.{opened_of, layout_of}
use Rattle.line_walk.specs.Walk.{line_fault, walk}
use Rattle.table_walk.specs.Walk.{rest}
use Rattle.table_layout.specs.declared.Layout.{Layout}
use Rattle.session.specs.Limits.{most_objects, bad_length}
use Rattle.found_layout.specs.Found.{found_in, finds, opened_as}
use Rattle.implication.specs.Pairs.{pairs}
use Rattle.context.specs.Objects.{Object, objects_of}
use Rattle.table_walk.proofs.Walk.Passed.{bytes-part, after-part, part-whole}
use Rattle.table_rows.specs.Rows.{word_of, row_of, rows_from}
use Rattle.mark_reading.specs.Marks.{flat, reading_from, reading_of, reading, reading_as, words_of_rows, words_read, complete_reading, complete_words_read}
use Rattle.table_layout.proofs.OfLayout.Passed.{table-objects}
use Rattle.complete_tables.specs.Complete.{complete_of}
use Rattle.found_layout.proofs.Found.Laws.{as-other, as-found}
use Rattle.complete_tables.proofs.Complete.Laws.{complete-layout}

-- `B`, an empty title, two rows and one property with their names, and the marks `X` and `.` without line feed
abbrev two : List ℕ
two = 66 ∷ 10 ∷ 10 ∷ 50 ∷ 10 ∷ 49 ∷ 10 ∷ 10 ∷ 97 ∷ 10 ∷ 98 ∷ 10 ∷ 112 ∷ 10 ∷ 88 ∷ 10 ∷ 46 ∷ []

-- computed: both rows are written and the words past them kept; places for one row are too few, and nothing is written; 2 comes before
-- what the file is refused with, 3 after 28
cases : (words_read two (7 ∷ 7 ∷ 7 ∷ 7 ∷ 7 ∷ 7 ∷ []) ≡ 1 ∷ 0 ∷ 0 ∷ 1 ∷ 7 ∷ 7 ∷ [])
    × (reading 2 two ≡ Err (refusal 3 0))
    × (words_read two (7 ∷ 7 ∷ []) ≡ 7 ∷ 7 ∷ [])
    × (reading 1 [] ≡ Err (refusal 2 0))
    × (reading 2 (two ++ (10 ∷ 88 ∷ [])) ≡ Err (refusal 28 18))
unfolding reading_of bad_length flat rows_from word_of opened_of layout_of walk rest line_fault fault is_count count_of decimal_from everywhere line_of
cases = (refl, refl, refl, refl, refl)

-- ---- rows

-- the part of the file from an offset on has the rows from there on
rows-part : (file : List ℕ) (at count k : ℕ) → rows_from count (drop at file) k ≡ rows_from count file (at + k)
unfolding rows_from
rows-part file at zero k = refl
rows-part file at (suc count) k =
    ap (λ (bs : List ℕ). row_of bs ∷ rows_from count (drop at file) (after (drop at file) k)) (bytes-part file at k)
    ∙ ap (λ (os : List Object). row_of (bytes_at file (at + k)) ∷ os)
    (rows-part file at count (after (drop at file) k) ∙ ap (rows_from count file) (after-part file at k))

pub rows-from : (file : List ℕ) (at count : ℕ) → rows_from count (take (length file - at) (drop at file)) 0 ≡ rows_from count file at
rows-from file at count = rw part-whole (rows-part file at count 0 ∙ ap (rows_from count file) (add-zero at))

-- ---- what a reading answers

module _ (words : ℕ) (o : Result Layout Refusal) where
  pub reading-bad : bad_length most_objects words ≡ true → reading_of words o ≡ Err (refusal 2 0)
  unfolding reading_of
  reading-bad e = rw (reading_of, e)

  pub reading-fine : bad_length most_objects words ≡ false → reading_of words o ≡ reading_from words o
  unfolding reading_of
  reading-fine e = rw (reading_of, e)

module _ (words : ℕ) (l : Layout) where
  pub reading-short : words / 2 < l.objects → reading_from words (Ok l) ≡ Err (refusal 3 0)
  reading-short h = rw (reading_from, lt-ltb (words / 2) l.objects h)

  pub reading-whole : l.objects ≤ words / 2 → reading_from words (Ok l) ≡ Ok l
  reading-whole h = rw (reading_from, le-ltb (words / 2) l.objects h)

-- the row words are of a length that can be, with places for the rows, and the file is a table
pub record Accepts (words : ℕ) (o : Result Layout Refusal) (l : Layout) : Type 0 where
  pub length_fine : bad_length most_objects words ≡ false
  pub places : l.objects ≤ words / 2
  pub opened : o ≡ Ok l

pub accepts : (words : ℕ) (o : Result Layout Refusal) (l : Layout) → reading_of words o ≡ Ok l → Accepts words o l
unfolding reading_of
accepts words o l e = go (bad_length most_objects words) refl e
  where
    never : {A : Type 0} {r : Refusal} → Err r ≡ Ok l → A
    never e = let z : ◌≡◌ {A = ℕ} 0 1 = cc in absurd (omega arith)

    places : bad_length most_objects words ≡ false → (x : Layout) (b : Bool) → ltb (words / 2) x.objects ≡ b
        → elim b as (λ z. Result Layout Refusal) [ true ↦ Err (refusal 3 0) | false ↦ Ok x ] ≡ Ok l → Accepts words (Ok x) l
    places f x true t e = never e
    places f x false t e =
        let same : x ≡ l = cc in
        record { length_fine = f; places = rw (sym same) (ltb-false _ _ t); opened = e }

    from : bad_length most_objects words ≡ false → (p : Result Layout Refusal) → reading_from words p ≡ Ok l → Accepts words p l
    from f (Ok x) e = places f x (ltb (words / 2) x.objects) refl e
    from f (Err r) e = never e

    go : (b : Bool) → bad_length most_objects words ≡ b
        → elim b as (λ z. Result Layout Refusal) [ true ↦ Err (refusal 2 0) | false ↦ reading_from words o ] ≡ Ok l → Accepts words o l
    go true f e = never e
    go false f e = from f o e

-- with row words for as many rows as a session has, a reading answers what the file was opened as
pub reading-all : (o : Result Layout Refusal) → ((l : Layout) → o ≡ Ok l → l.objects ≤ most_objects) → reading_of (most_objects * 2) o ≡ o
unfolding bad_length
reading-all (Ok l) h = reading-fine (most_objects * 2) (Ok l) refl ∙ reading-whole (most_objects * 2) l (h l refl)
reading-all (Err r) h = reading-fine (most_objects * 2) (Err r) refl

-- the words of the rows hold the rows
pub rows-held : (k : ℕ) (file : List ℕ) (at : ℕ) (rest : List ℕ) → objects_of k (flat (rows_from k file at) ++ rest) ≡ rows_from k file at
unfolding rows_from flat pairs
rows-held zero file at rest = refl
rows-held (suc k) file at rest = ap (λ os. row_of (bytes_at file at) ∷ os) (rows-held k file (after file at) rest)

-- ---- an opened table

module _ (l : Layout) (words : ℕ) (file : List ℕ) where
  pub reading-as : finds file l ≡ true → reading_as l words file ≡ reading words file
  reading-as h = ap (reading_of words) (as-found l (opened_of file) h)

  pub reading-other : (x : Layout) → opened_of file ≡ Ok x → finds file l ≡ false → bad_length most_objects words ≡ false
      → reading_as l words file ≡ Err (refusal 3 0)
  reading-other x e h b =
      reading-fine words (opened_as l (opened_of file)) b
      ∙ ap (λ o. reading_from words (opened_as l o)) e
      ∙ ap (reading_from words) (as-other l x (sym (ap (λ o. found_in o l) e) ∙ h))

-- ---- row words for all the rows that a session has

module _ (file : List ℕ) where
  pub complete-reading : complete_reading (most_objects * 2) file ≡ complete_of file (opened_of file)
  complete-reading = reading-all _ λ l e. table-objects file l (complete-layout file l e)

  pub complete-words : (words : List ℕ) → length words ≡ most_objects * 2
      → complete_words_read file words ≡ words_of_rows (complete_of file (opened_of file)) file words
  complete-words words e =
      ap (λ (k : ℕ). words_of_rows (complete_reading k file) file words) e
      ∙ ap (λ (o : Result Layout Refusal). words_of_rows o file words) complete-reading
