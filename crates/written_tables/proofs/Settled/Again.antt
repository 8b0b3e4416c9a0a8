-- What is written of what was read: the text, or 30 where it is too long (`written`, `refused`). Where the text is read back, its table says
-- the same as the file's (`same-table`), and the text of what is read of it is the same text (`text-again`).
use Rattle.std.specs.Prelude.{◌≡◌, ◌⊎◌, List, [], ◌++◌, ℕ, ◌+◌, ◌≤◌, ◌<◌, length, take, drop, Result, Ok, Err}
use Rattle.std.proofs.Common.{sym, ap, ap₂, ◌∙◌, inl, inr, append_assoc, arith, take-add, take_at, length-take-le}
use Rattle.session.specs.declared.Refusal.{Refusal}
use Rattle.session.specs.Refusals.{refusal}
use Rattle.attribute_set.proofs.Sets.Laws.{lt-or-le}
use Rattle.context.specs.Objects.{Object, objects_of}
use Rattle.table_lines.specs.Pieces.{lines_of}
use Rattle.table_layout.specs.declared.Layout.{Layout}
use Rattle.table_layout.specs.Layout.{most_bytes, opened_of}
use Rattle.found_layout.specs.Found.{finds}
use Rattle.name_spans.proofs.Spans.Laws.{span-past}
use Rattle.table_names.specs.Names.{bytes_of, object_name, attribute_name}
use Rattle.mark_reading.specs.Marks.{reading, words_read}
use Rattle.mark_reading.proofs.Marks.Laws.{accepts}
use Rattle.same_lines.specs.Files.{SameTable}
use Rattle.closed_lines.specs.Closed.{closed, first_lines}
use Rattle.table_text.specs.Table.{header_lines, mark_lines, lines_written, text_of}
use Rattle.table_text.proofs.Table.Laws.{text-parts}
use Rattle.table_writing.specs.Writing.{RowsPass, NamesPass, output_after, WritesFrom}
use Rattle.table_writing.proofs.Writing.Laws.{long-file, long-output, short-both, long-refused, all-written}
use Rattle.written_tables.specs.Tables.{TextRead}
use Rattle.written_tables.specs.Settled.{names_up_to, text_again, WritesAgain}
use Rattle.written_tables.proofs.Settled.Reading.{rows-read, rows-checked, starts, lines-enough, first-names, names-passed, names-enough, object-lent, attribute-lent}

-- ---- the answer of a writer, by the length of the text

module _ (n used : ℕ) (words names : List ℕ) (p : RowsPass n used words) (q : NamesPass n used names)
    (out : List ℕ) (x : Result ℕ Refusal) (out' : List ℕ) (w : WritesFrom n used words names out x out') where
  abbrev size : ℕ
  size = length (text_of n used words names)

  text-written : size ≤ most_bytes → size ≤ length out → (x ≡ Ok size) × (out' ≡ text_of n used words names ++ drop size out)
  text-written short fits =
      let e : x ≡ Ok size = w.answer ∙ all-written n used words names (length out) p q (short-both (length out) size short fits) in
      (e, w.output ∙ ap (λ y. output_after y (text_of n used words names) out) e)

  text-refused : (most_bytes < size) ⊎ (length out < size) → x ≡ Err (refusal 30 0)
  text-refused (inl h) = w.answer ∙ long-refused n used words names (length out) p q (long-file (length out) size h)
  text-refused (inr h) = w.answer ∙ long-refused n used words names (length out) p q (long-output (length out) size h)

-- ---- the names written

-- behind the first five lines of a text stand the names needed
names-written : (n used : ℕ) (words names : List ℕ) → used + n ≤ length (lines_of names)
    → take (used + n) (drop 5 (lines_written n used words names)) ≡ first_lines (used + n) names
names-written n used words names h =
    let ls = lines_of names in
    let marks = mark_lines n (objects_of used words) in
    ap (take (used + n)) (sym (append_assoc (take used ls) (take n (drop used ls)) marks) ∙ ap (λ ks. ks ++ marks) (sym (take-add used n ls)))
    ∙ take_at (take (used + n) ls) marks (used + n) (length-take-le (used + n) ls h)

-- past the last there is none
module _ (file : List ℕ) (l : Layout) (k : ℕ) where
  object-none : l.objects ≤ k → object_name file l k ≡ []
  object-none h = ap (bytes_of file) (span-past (finds file l) l.objects l.object_names k file h)

  attribute-none : l.attributes ≤ k → attribute_name file l k ≡ []
  attribute-none h = ap (bytes_of file) (span-past (finds file l) l.attributes l.attribute_names k file h)

-- the parts of a text
abbrev parts : ℕ → ℕ → List (List ℕ) → List Object → List ℕ
parts used n names os = closed (header_lines used n) ++ (closed names ++ closed (mark_lines n os))

-- ---- what was read, written

module _ (file ws : List ℕ) (l : Layout) (r : reading (length ws) file ≡ Ok l) (end : ℕ) (h : l.marks ≤ end) where
  abbrev text : List ℕ
  text = text_again file l ws end

  opened : opened_of file ≡ Ok l
  opened = (accepts (length ws) (opened_of file) l r).opened

  -- every check before 30 passes
  module _ (out : List ℕ) (x : Result ℕ Refusal) (out' : List ℕ) (w : WritesAgain file l ws end out x out') where
    pub written : length (text_again file l ws end) ≤ most_bytes → length (text_again file l ws end) ≤ length out
        → (x ≡ Ok (length (text_again file l ws end))) × (out' ≡ text_again file l ws end ++ drop (length (text_again file l ws end)) out)
    written =
        text-written _ _ (words_read file ws) (names_up_to file l end) (rows-checked file ws l r) (names-passed file l opened end h) out x out' w

    pub refused : (most_bytes < length (text_again file l ws end)) ⊎ (length out < length (text_again file l ws end)) → x ≡ Err (refusal 30 0)
    refused =
        text-refused _ _ (words_read file ws) (names_up_to file l end) (rows-checked file ws l r) (names-passed file l opened end h) out x out' w

  -- the text is read back
  module _ (t : TextRead l.attributes l.objects (words_read file ws) (names_up_to file l end)) where
    pub same-table : SameTable file (text_again file l ws end) l t.table
    same-table =
        let s = starts file l opened in
        let found = t.found in
        let enough = lines-enough file l opened in
        record {
          layout = record {
            objects = sym found.objects;
            attributes = sym found.attributes;
            object_lines = (5, omega arith, s.object_start, t.object_start);
            attribute_lines = (5 + l.objects, omega arith, s.attribute_start, t.attribute_start);
            lines_of_marks = (5 + (l.objects + l.attributes), enough, s.mark_start, t.mark_start);
          };
          object_names = λ k. objects k (lt-or-le k l.objects);
          attribute_names = λ k. attributes k (lt-or-le k l.attributes);
          rows = sym (rows-read file ws l r) ∙ sym found.rows;
        }
      where
        objects : (k : ℕ) → (k < l.objects) ⊎ (l.objects ≤ k) → object_name file l k ≡ object_name text t.table k
        objects k (inl b) = sym (object-lent file l opened end h k b) ∙ sym (t.found.object_names k b)
        objects k (inr b) = object-none file l k b ∙ sym (object-none text t.table k (rw t.found.objects b))

        attributes : (k : ℕ) → (k < l.attributes) ⊎ (l.attributes ≤ k) → attribute_name file l k ≡ attribute_name text t.table k
        attributes k (inl b) = sym (attribute-lent file l opened end h k b) ∙ sym (t.found.attribute_names k b)
        attributes k (inr b) = attribute-none file l k b ∙ sym (attribute-none text t.table k (rw t.found.attributes b))

    pub text-again : (ws' : List ℕ) (end' : ℕ) → reading (length ws') (text_again file l ws end) ≡ Ok t.table → t.table.marks ≤ end'
        → text_again (text_again file l ws end) t.table ws' end' ≡ text_again file l ws end
    text-again ws' end' r' h' =
        let n = l.attributes in
        let used = l.objects in
        let words = words_read file ws in
        let names = names_up_to file l end in
        let l' = t.table in
        let words' = words_read text ws' in
        let names' = names_up_to text l' end' in
        let e = t.found.objects in
        let f = t.found.attributes in
        let rows : objects_of l'.objects words' ≡ objects_of used words = rows-read text ws' l' r' ∙ t.found.rows in
        let lines : first_lines (l'.objects + l'.attributes) names' ≡ first_lines (used + n) names =
        first-names text l' t.found.opened end' h'
        ∙ ap₂ (λ (u m : ℕ). take (u + m) (drop 5 (lines_of text))) e f
        ∙ ap (λ ls. take (used + n) (drop 5 ls)) t.lines
        ∙ names-written n used words names (names-enough file l opened end h) in
        text-parts l'.attributes l'.objects words' names'
        ∙ ap₂ (λ (u m : ℕ). parts u m (first_lines (l'.objects + l'.attributes) names') (objects_of l'.objects words')) e f
        ∙ ap₂ (parts used n) lines rows
        ∙ sym (text-parts n used words names)
