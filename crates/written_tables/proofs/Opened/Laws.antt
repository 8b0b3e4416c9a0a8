-- A file whose lines are those of a table opens as that table (`table-opened`), has the names of its name lines (`object-line`,
-- `attribute-line`), and the rows of its lines of marks (`table-rows`).
use Rattle.std.specs.Prelude.{◌≡◌, Bool, ℕ, ◌+◌, ◌<◌, drop, get_or, replicate, Ok}
use Rattle.std.proofs.Math.Path.{refl, sym, ap, ap₂}
use Rattle.std.proofs.Common.{◌∙◌, arith, length-append, get_or-append-add, ltb-true, ltb-false}
use Rattle.std.proofs.Math.Bool.{true, false}
use mathlib.Core.List.{List, [], ◌∷◌, ◌++◌, map, head-eq_of_cons-eq, tail-eq_of_cons-eq}
use Rattle.std.proofs.Math.ListN.{length, get_or-append}
use Rattle.std.proofs.lemmas.List.{length-replicate, replicate-append-replicate}
use Rattle.std.proofs.Math.Seq.{drop-append_seam, drop-append-add}
use Rattle.std.proofs.Math.Dec.{ltb}
use Rattle.table_kinds.specs.declared.Kind.{Kind}
use Rattle.table_kinds.specs.declared.Kind.TheVariants.{Name, Marks}
use Rattle.table_lines.specs.Lines.{bytes_at, after, skipped}
use Rattle.table_lines.specs.Pieces.{lines_of}
use Rattle.table_lines.proofs.Pieces.Laws.{lines_at, lines_end, lines_left, start-end, start-bytes}
use Rattle.table_lines.proofs.Pieces.Parts.{skipped-add}
use Rattle.line_faults.specs.Faults.{fault}
use Rattle.line_walk.specs.Walk.{walk}
use Rattle.table_walk.specs.Walk.{place_of, then_rest}
use Rattle.table_walk.proofs.Walk.Laws.{rest_end}
use Rattle.table_walk.proofs.Walk.Lines.{Fine, fine-walk, fine-append, fine-front}
use Rattle.table_counts.specs.Counts.{count_of}
use Rattle.table_header.specs.Header.{object_count, attribute_count, header}
use Rattle.table_layout.specs.Layout.{to_attribute_names, to_marks, kinds_to_end, opened_of}
use Rattle.table_layout.proofs.OfLayout.Laws.{layout-same, opened-walked}
use Rattle.found_layout.specs.Found.{finds}
use Rattle.found_layout.proofs.Found.Laws.{finds-table}
use Rattle.table_rows.specs.Rows.{row_of, rows_from}
use Rattle.name_spans.proofs.Spans.Laws.{span-there}
use Rattle.table_names.specs.Names.{bytes_of, object_name, attribute_name}
use Rattle.table_text.specs.Table.{header_lines}
use Rattle.written_tables.proofs.Tables.Counts.{count-read, objects-line, attributes-line}
use Rattle.written_tables.specs.Opened.{HasTable, table_of}

-- ---- rows by lines

module _ (file : List ℕ) where
  -- the rows of the lines that are left
  rows-lines : (ls : List (List ℕ)) (at : ℕ) → lines_of (drop at file) ≡ ls → rows_from (length ls) file at ≡ map row_of ls
  unfolding rows_from
  rows-lines [] at e = refl
  rows-lines (l ∷ ls) at e = go (ltb at (length file)) refl (rows-lines ls (after file at))
    where
      go : (t : Bool) → ltb at (length file) ≡ t
          → (lines_of (drop (after file at) file) ≡ ls → rows_from (length ls) file (after file at) ≡ map row_of ls)
          → row_of (bytes_at file at) ∷ rows_from (length ls) file (after file at) ≡ row_of l ∷ map row_of ls
      go true t on =
          let s = sym (lines_at file at (ltb-true _ _ t)) ∙ e in
          ap₂ ◌∷◌ (ap row_of (head-eq_of_cons-eq s)) (on (tail-eq_of_cons-eq s))
      go false t on = absurd (omega (arith, ap length (sym (lines_end file at (ltb-false _ _ t)) ∙ e)))

-- ---- the table is found

module _ (file : List ℕ) (n used : ℕ) (names marks : List (List ℕ)) (t : HasTable file n used names marks) where
  -- how many lines it has
  count : length (lines_of file) ≡ 5 + ((used + n) + used)
  count = ap length t.lines ∙ omega (arith, length-append names marks, t.names_count, t.marks_count)

  header-fine : Fine header (header_lines used n)
  unfolding fault
  header-fine = (refl, (refl, (objects-line used t.objects, (attributes-line n t.some t.attributes, (refl, tt)))))

  line_at : (i : ℕ) → i < 5 + ((used + n) + used) → bytes_at file (skipped i file 0) ≡ get_or (header_lines used n ++ (names ++ marks)) i []
  line_at i h = start-bytes file i (omega (arith, count)) ∙ ap (λ ls. get_or ls i []) t.lines

  -- its counts
  objects-read : object_count file ≡ used
  unfolding skipped
  objects-read = ap count_of (line_at 2 (omega arith)) ∙ count-read used (omega (arith, t.objects))

  attributes-read : attribute_count file ≡ n
  unfolding skipped
  attributes-read = ap count_of (line_at 3 (omega arith)) ∙ count-read n (omega (arith, t.attributes))

  -- the kinds of its lines
  kinds : kinds_to_end file ≡ header ++ (replicate (used + n) Name ++ replicate used (Marks n))
  kinds =
      ap₂ (λ (o a : ℕ). header ++ replicate o Name ++ replicate a Name ++ replicate o (Marks a)) objects-read attributes-read
      ∙ ap (λ ks. header ++ ks ++ replicate used (Marks n)) (replicate-append-replicate used n Name)

  end-fine : Fine (kinds_to_end file) (lines_of file)
  end-fine =
      let ks = replicate (used + n) Name in
      let js = replicate used (Marks n) in
      let left = fine-append ks js names marks (t.names_count ∙ sym (length-replicate (used + n) Name)) t.names_fine t.marks_fine in
      rw (kinds, t.lines) (fine-append header (ks ++ js) (header_lines used n) (names ++ marks) refl header-fine left)

  -- where its first lines end
  walked : (ks : List Kind) (k : ℕ) → Fine ks (lines_of file) → length ks ≡ k → walk ks file 0 ≡ Ok (skipped k file 0)
  walked ks k f e = fine-walk file ks 0 f ∙ ap (λ (j : ℕ). Ok (skipped j file 0)) e

  marks_fine : Fine (to_marks file) (lines_of file)
  marks_fine = fine-front (to_marks file) (replicate (object_count file) (Marks (attribute_count file))) (lines_of file) end-fine

  attributes-fine : Fine (to_attribute_names file) (lines_of file)
  attributes-fine = fine-front (to_attribute_names file) (replicate (attribute_count file) Name) (lines_of file) marks_fine

  pub table-opened : opened_of file ≡ Ok (table_of file n used)
  table-opened =
      let o : length (replicate (object_count file) Name) ≡ used = length-replicate _ Name ∙ objects-read in
      let a : length (replicate (attribute_count file) Name) ≡ n = length-replicate _ Name ∙ attributes-read in
      let total = 5 + ((used + n) + used) in
      let end : skipped total file 0 ≡ length file = start-end file total (omega (arith, count)) in
      let whole = walked (kinds_to_end file) total end-fine (ap length kinds ∙ simp (length-append, length-replicate) (omega arith)) in
      let objectNames = walked header 5 (fine-front header (replicate (object_count file) Name) (lines_of file) attributes-fine) refl in
      let attributeNames = walked (to_attribute_names file) (5 + used) attributes-fine (simp length-append (omega arith)) in
      let marksAt = walked (to_marks file) (5 + (used + n)) marks_fine (simp length-append (omega arith)) in
      opened-walked file t.short (Ok (skipped total file 0))
      (sym (ap (then_rest file) whole ∙ rest_end file (length file) (skipped total file 0) (omega arith)))
      ∙ ap Ok (sym (layout-same file (sym objects-read) (sym attributes-read) (sym (ap place_of objectNames))
      (sym (ap place_of attributeNames)) (sym (ap place_of marksAt))))

  -- ---- the names

  -- line 5 + k is the name k, of those of the objects and then those of the attributes
  name-line : (k : ℕ) → k < used + n → bytes_at file (skipped (5 + k) file 0) ≡ get_or names k []
  name-line k h =
      line_at (5 + k) (omega arith) ∙ get_or-append-add (header_lines used n) (names ++ marks) k []
      ∙ get_or-append names marks [] k (omega (arith, t.names_count))

  -- reading the file finds the table
  found : finds file (table_of file n used) ≡ true
  found = (finds-table file (table_of file n used)).1 table-opened

  pub object-line : (k : ℕ) → k < used → object_name file (table_of file n used) k ≡ get_or names k []
  object-line k h =
      ap (bytes_of file) (span-there (finds file (table_of file n used)) used (skipped 5 file 0) k file found h)
      ∙ ap (bytes_at file) (sym (skipped-add 5 k file 0)) ∙ name-line k (omega arith)

  pub attribute-line : (k : ℕ) → k < n → attribute_name file (table_of file n used) k ≡ get_or names (used + k) []
  attribute-line k h =
      let e : 5 + used + k ≡ 5 + (used + k) = omega arith in
      ap (bytes_of file) (span-there (finds file (table_of file n used)) n (skipped (5 + used) file 0) k file found h)
      ∙ ap (bytes_at file) (sym (skipped-add (5 + used) k file 0) ∙ ap (λ (j : ℕ). skipped j file 0) e) ∙ name-line (used + k) (omega arith)

  -- ---- the rows

  pub table-rows : rows_from used file (skipped (5 + (used + n)) file 0) ≡ map row_of marks
  table-rows =
      let at = skipped (5 + (used + n)) file 0 in
      let left : lines_of (drop at file) ≡ marks =
      lines_left file (5 + (used + n)) ∙ ap (drop (5 + (used + n))) t.lines
      ∙ drop-append-add (header_lines used n) (names ++ marks) (used + n)
      ∙ ap (λ (k : ℕ). drop k (names ++ marks)) (sym t.names_count) ∙ drop-append_seam names marks in
      ap (λ (k : ℕ). rows_from k file at) (sym t.marks_count) ∙ rows-lines file marks at left
