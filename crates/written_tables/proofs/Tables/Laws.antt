-- The text of a table whose rows pass the checks and whose names pass, and that is no longer than a table file, is read again as that
-- table (`text-read`).
use Rattle.std.specs.Prelude.{◌≡◌, refl, List, [], ◌∷◌, ◌++◌, map, ℕ, zero, suc, ◌+◌, ◌*◌, ◌≤◌, length, take, drop, replicate, Result, Ok}
use Rattle.std.proofs.Common.{ap, ap₂, subst, ◌∙◌, arith, take-append-drop, get_or-take}
use mathlib.Core.List.Memᴰ
use Rattle.std.proofs.lemmas.List.{length-map}
use Rattle.session.specs.declared.Refusal.{Refusal}
use Rattle.theory.specs.Lists.{All}
use Rattle.theory.proofs.Lists.Laws.{all_nil, all_cons, all_append, all_take}
use Rattle.attribute_set.specs.Sets.{Apart}
use Rattle.attribute_set.proofs.Sets.Laws.{sub-full-lt}
use Rattle.implication.specs.Pairs.{pairs}
use Rattle.implication.proofs.Pairs.Laws.{length_pairs}
use Rattle.context.specs.Objects.{Object, object, objects_of}
use Rattle.machine.proofs.Checks.Laws.{InM}
use Rattle.row_checks.proofs.Rows.Laws.{Fits, rows_fit}
use Rattle.table_kinds.specs.declared.Kind.TheVariants.{Name, Marks}
use Rattle.table_lines.specs.Lines.{NoEnd}
use Rattle.table_lines.specs.Pieces.{lines_of}
use Rattle.table_lines.proofs.Pieces.Laws.{lines-no-end}
use Rattle.table_walk.proofs.Walk.Lines.{Fine, fine-taken}
use Rattle.table_layout.specs.declared.Layout.{Layout}
use Rattle.table_layout.specs.Layout.{most_bytes, opened_of}
use Rattle.table_rows.specs.Rows.{row_of, rows_from}
use Rattle.mark_reading.specs.Marks.{flat, reading_from, reading, words_of_rows}
use Rattle.mark_reading.proofs.Marks.Laws.{reading-fine, reading-whole}
use Rattle.closed_lines.proofs.Closed.Laws.{closed-lines}
use Rattle.table_text.specs.Table.{header_lines, mark_lines, lines_written, text_of}
use Rattle.table_text.proofs.Table.Laws.{lines-parts}
use Rattle.table_writing.specs.Writing.{RowsPass, NamesPass}
use Rattle.table_writing.proofs.Writing.Laws.{names_fine}
use Rattle.written_tables.proofs.Tables.Counts.{count-no-end}
use Rattle.written_tables.proofs.Tables.Marks.{marks-row, marks_line, marks-no-end}
use Rattle.written_tables.specs.Opened.{HasTable, table_of}
use Rattle.written_tables.proofs.Opened.Laws.{table-opened, object-line, attribute-line, table-rows}
use Rattle.written_tables.specs.ReadBack.{FindsTable}
use Rattle.written_tables.specs.Tables.{TextRead}

-- the words of rows are the words that they were read from
flat-taken : (k : ℕ) (ws : List ℕ) → k * 2 ≤ length ws → flat (objects_of k ws) ≡ take (k * 2) ws
unfolding flat pairs
flat-taken zero ws h = refl
flat-taken (suc k) [] h = absurd (omega arith)
flat-taken (suc k) (x ∷ []) h = absurd (omega arith)
flat-taken (suc k) (x ∷ y ∷ ws) h =
    let e : suc k * 2 ≡ suc (suc (k * 2)) = omega arith in
    rw e (ap (λ t. x ∷ y ∷ t) (flat-taken k ws (omega arith)))

-- ---- the lines of marks of rows

module _ (n : ℕ) where
  marks-no-ends : (os : List Object) → All (All NoEnd) (mark_lines n os)
  marks-no-ends [] = all_nil _
  marks-no-ends (o ∷ os) = all_cons (marks-no-end n o.yes_marks o.no_marks) (marks-no-ends os)

  marks-lines : (os : List Object) → Fine (replicate (length os) (Marks n)) (mark_lines n os)
  marks-lines [] = tt
  marks-lines (o ∷ os) = (marks_line n o.yes_marks o.no_marks, marks-lines os)

  marks-rows : (os : List Object) → All (InM n) os → All (λ o. Apart o.yes_marks o.no_marks) os → map row_of (mark_lines n os) ≡ os
  marks-rows [] h a = refl
  marks-rows (o ∷ os) h a =
      let here = Memᴰ.head refl in
      let y = sub-full-lt o.yes_marks n (h o here).yes_marks in
      let m = sub-full-lt o.no_marks n (h o here).no_marks in
      ap₂ ◌∷◌ (marks-row n o.yes_marks o.no_marks y m (a o here))
      (marks-rows os (λ x i. h x (Memᴰ.tail i)) (λ x i. a x (Memᴰ.tail i)))

-- ---- the text

module _ (n used : ℕ) (words names : List ℕ) where
  abbrev os : List Object
  os = objects_of used words

  abbrev text : List ℕ
  text = text_of n used words names

  abbrev name_lines : List (List ℕ)
  name_lines = take (used + n) (lines_of names)

  header-no-ends : All (All NoEnd) (header_lines used n)
  header-no-ends =
      let letter : All NoEnd (66 ∷ []) = all_cons (omega arith) (all_nil _) in
      all_cons letter (all_cons (all_nil _) (all_cons (count-no-end used) (all_cons (count-no-end n) (all_cons (all_nil _) (all_nil _)))))

  names-no-ends : All (All NoEnd) name_lines
  names-no-ends =
      let ls = lines_of names in
      all_take name_lines (drop (used + n) ls) (rw take-append-drop (lines-no-end names))

  text-lines : lines_of text ≡ lines_written n used words names
  text-lines =
      closed-lines (lines_written n used words names)
      (rw lines-parts (all_append (header_lines used n) _ header-no-ends (all_append name_lines _ names-no-ends (marks-no-ends n os))))

  module _ (c : Fits n used words) (named : NamesPass n used names) (short : length text ≤ most_bytes) where
    text-table : HasTable text n used name_lines (mark_lines n os)
    text-table =
        let counted = length_pairs object used words in
        let fine = fine-taken Name (used + n) (lines_of names) (names_fine n used names named) in
        record {
          lines = text-lines ∙ lines-parts n used words names;
          objects = c.objects;
          some = c.some;
          attributes = c.attributes;
          names_count = fine.0;
          names_fine = fine.1;
          marks_count = length-map os _ ∙ counted;
          marks_fine = subst (λ (k : ℕ). Fine (replicate k (Marks n)) (mark_lines n os)) counted (marks-lines n os);
          short = short;
        }

    abbrev table : Layout
    table = table_of text n used

    opened : opened_of text ≡ Ok table
    opened = table-opened text n used name_lines (mark_lines n os) text-table

    rows : rows_from used text table.marks ≡ os
    rows = table-rows text n used name_lines (mark_lines n os) text-table ∙ marks-rows n os c.inside c.apart

    text-found : FindsTable text n used words names table
    text-found = record {
      opened = opened;
      objects = refl;
      attributes = refl;
      rows = rows;
      read = λ ws b h.
          let r : reading (length ws) text ≡ Ok table =
          reading-fine (length ws) (opened_of text) b ∙ ap (reading_from (length ws)) opened ∙ reading-whole (length ws) table h in (
            r,
            ap (λ (o : Result Layout Refusal). words_of_rows o text ws) r
                ∙ ap (λ (t : List Object). flat t ++ drop (used * 2) ws) rows
                ∙ ap (λ (t : List ℕ). t ++ drop (used * 2) ws) (flat-taken used words (omega (arith, c.places))),
          );
      object_names = λ k h.
          object-line text n used name_lines (mark_lines n os) text-table k h ∙ get_or-take (used + n) (lines_of names) k [] (omega arith);
      attribute_names = λ k h.
          attribute-line text n used name_lines (mark_lines n os) text-table k h ∙ get_or-take (used + n) (lines_of names) (used + k) [] (omega arith);
    }

pub text-read : (n used : ℕ) (words names : List ℕ) → RowsPass n used words → NamesPass n used names
    → length (text_of n used words names) ≤ most_bytes → TextRead n used words names
text-read n used words names e f h =
    record {
      table = table_of (text_of n used words names) n used;
      found = text-found n used words names (rows_fit n used words e) f h;
      lines = text-lines n used words names;
      object_start = refl;
      attribute_start = refl;
      mark_start = refl;
    }
