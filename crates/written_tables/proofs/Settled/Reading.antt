-- What was read of a file passes the checks of a writer: the rows (`rows-checked`), and the file's own names where they stand
-- (`names-passed`). They are the file's (`rows-read`, `object-lent`, `attribute-lent`). The names and the marks of a table begin at lines that
-- its counts say (`starts`).
use Rattle.std.specs.Prelude.{◌≡◌, Bool, true, ◌||◌, get_or, take, drop, eqb, Ok}
use Rattle.std.proofs.Math.Path.{refl, ap, subst}
use Rattle.std.proofs.Common.{sym, ◌∙◌, arith, length-drop, get_or-take, get_or-drop}
use Rattle.std.proofs.Math.Bool.{false}
use mathlib.Core.List.{List, [], ◌∷◌, ◌++◌, append_assoc}
use Rattle.std.proofs.Math.Option.{none}
use Prim.Native.Nat.{ℕ, zero, suc, ◌+◌, ◌-◌, ◌*◌, ◌/◌, ◌≤◌, ◌<◌}
use Rattle.std.proofs.Math.ListN.{length, replicate, length-append, length-replicate}
use Rattle.std.proofs.lemmas.List.{replicate-append-replicate}
use Rattle.std.proofs.Math.Dec.{ltb}
use borrow.Author.Tests.{le-ltb, ne_eqb, eqb-true}
use Rattle.theory.specs.Lists.{All}
use Rattle.theory.proofs.Lists.Laws.{all_nil, all_cons}
use Rattle.session.specs.Limits.{most_attributes, most_objects, bad_length}
use Rattle.attribute_set.specs.Sets.{In}
use Rattle.attribute_set.proofs.Sets.Laws.{sub-inside, lt-sub-full, member-lt}
use Rattle.context.specs.Objects.{Object, objects_of, marked_twice}
use Rattle.context.proofs.Objects.Laws.{apart-marked}
use Rattle.context.specs.Places.{anywhere}
use Rattle.context.proofs.Places.Laws.{all-anywhere}
use Rattle.machine.specs.Checks.{first_failing, strange, strange_object}
use Rattle.machine.proofs.Checks.Laws.{none-failing}
use Rattle.row_checks.specs.Rows.{row_checks}
use Rattle.table_kinds.specs.declared.Kind.{Kind}
use Rattle.table_kinds.specs.declared.Kind.TheVariants.{Name, Marks}
use Rattle.table_lines.specs.Lines.{bytes_at, after, skipped}
use Rattle.table_lines.specs.Pieces.{lines_of}
use Rattle.table_lines.proofs.Pieces.Laws.{lines_left, start-bytes}
use Rattle.table_lines.proofs.Pieces.Parts.{skipped-part, skipped-add, part-lines}
use Rattle.table_bytes.specs.Bytes.{is_yes, is_no}
use Rattle.line_faults.proofs.Faults.Laws.{marks_fine}
use Rattle.line_walk.specs.Walk.{walk}
use Rattle.table_walk.specs.Walk.{Passes, place_of}
use Rattle.table_walk.proofs.Walk.Passed.{line-there, passes-cons, passes_append}
use Rattle.table_walk.proofs.Walk.Lines.{Fine, fine-walk, passes-fine, fine-behind, fine-count, fine-first}
use Rattle.table_header.specs.Header.{header, object_count, attribute_count}
use Rattle.table_layout.specs.declared.Layout.{Layout}
use Rattle.table_layout.specs.Layout.{to_attribute_names, to_marks, kinds_to_end, layout_of, opened_of}
use Rattle.table_layout.proofs.OfLayout.Passed.{opened-table, table-attributes, table-marks}
use Rattle.found_layout.specs.Found.{finds}
use Rattle.found_layout.proofs.Found.Laws.{finds-table}
use Rattle.name_spans.proofs.Spans.Laws.{span-there}
use Rattle.table_names.specs.Names.{bytes_of, object_name, attribute_name}
use Rattle.table_rows.specs.Rows.{bit_of, word_of, row_of, rows_from}
use Rattle.table_rows.proofs.Rows.Laws.{word-bit, word_lt, rows-count}
use Rattle.mark_reading.specs.Marks.{flat, reading, words_of_rows, words_read}
use Rattle.mark_reading.proofs.Marks.Laws.{rows-held, accepts}
use Rattle.table_writing.specs.Writing.{names_walk, is_failed}
use Rattle.written_tables.specs.Settled.{names_up_to}

-- ---- the rows

-- a row of so many marks lies inside M, and no attribute is marked both ways
row_inside : (n : ℕ) (bs : List ℕ) → length bs ≡ n → strange_object n (row_of bs) ≡ false
unfolding strange
row_inside n bs e =
    rw (sym e)
    (rw (
      sub-inside (lt-sub-full (word_of is_yes bs) (length bs) (word_lt is_yes bs)),
      sub-inside (lt-sub-full (word_of is_no bs) (length bs) (word_lt is_no bs)),
    ))

never_both : (b : ℕ) → bit_of (is_yes b) ≡ 1 → bit_of (is_no b) ≡ 1 → ⊥
never_both b = go (eqb b 88) (eqb b 120) (eqb b 46) refl refl refl
  where
    go : (t u v : Bool) → eqb b 88 ≡ t → eqb b 120 ≡ u → eqb b 46 ≡ v → bit_of (t || u) ≡ 1 → bit_of v ≡ 1 → ⊥
    go t u false e f g h k = omega arith
    go true u true e f g h k = omega (arith, eqb-true b 88 e, eqb-true b 46 g)
    go false true true e f g h k = omega (arith, eqb-true b 120 f, eqb-true b 46 g)
    go false false true e f g h k = omega arith

row-once : (bs : List ℕ) → marked_twice (row_of bs) ≡ false
row-once bs = apart-marked (row_of bs) (record { at = both })
  where
    both : (i : ℕ) → In i (word_of is_yes bs) → In i (word_of is_no bs) → ⊥
    both i y n =
        let h = member-lt (word_of is_yes bs) i (length bs) (word_lt is_yes bs) y in
        never_both (get_or bs i 0) (sym (word-bit is_yes bs i h) ∙ y) (sym (word-bit is_no bs i h) ∙ n)

module _ (file : List ℕ) where
  rows_inside : (k n at : ℕ) → Passes (walk (replicate k (Marks n)) file at) → All (λ o. strange_object n o ≡ false) (rows_from k file at)
  unfolding rows_from
  rows_inside zero n at p = all_nil _
  rows_inside (suc k) n at p =
      let t = passes-cons file (Marks n) (replicate k (Marks n)) at p in
      let s = (marks_fine n (bytes_at file at) (line-there file (Marks n) at t.0).1).0 in
      all_cons (row_inside n (bytes_at file at) s) (rows_inside k n (after file at) t.1)

  rows-once : (k at : ℕ) → All (λ o. marked_twice o ≡ false) (rows_from k file at)
  unfolding rows_from
  rows-once zero at = all_nil _
  rows-once (suc k) at = all_cons (row-once (bytes_at file at)) (rows-once k (after file at))

flat-length : (os : List Object) → length (flat os) ≡ length os * 2
unfolding flat
flat-length [] = refl
flat-length (o ∷ os) = omega (arith, flat-length os)

module _ (file ws : List ℕ) (l : Layout) (r : reading (length ws) file ≡ Ok l) where
  words_are : words_read file ws ≡ flat (rows_from l.objects file l.marks) ++ drop (l.objects * 2) ws
  words_are = ap (λ o. words_of_rows o file ws) r

  pub rows-read : objects_of l.objects (words_read file ws) ≡ rows_from l.objects file l.marks
  rows-read = ap (objects_of l.objects) words_are ∙ rows-held l.objects file l.marks (drop (l.objects * 2) ws)

  words-length : length (words_read file ws) ≡ length ws
  words-length =
      let a = accepts (length ws) (opened_of file) l r in
      let rows = rows_from l.objects file l.marks in
      let kept = drop (l.objects * 2) ws in
      omega (
        arith,
        ap length words_are,
        length-append (flat rows) kept,
        flat-length rows,
        rows-count l.objects file l.marks,
        length-drop (l.objects * 2) ws,
      )

  pub rows-checked : first_failing (row_checks l.attributes l.objects (words_read file ws)) ≡ none
  unfolding row_checks
  rows-checked =
      let a = accepts (length ws) (opened_of file) l r in
      let n = table-attributes file l a.opened in
      let inM = rows_inside file l.objects l.attributes l.marks (table-marks file l a.opened).2 in
      let once = rows-once file l.objects l.marks in
      let one : (eqb l.attributes 0 || ltb most_attributes l.attributes) ≡ false =
      rw (ne_eqb l.attributes 0 (λ z. absurd (omega arith)), le-ltb most_attributes l.attributes n.1) in
      let two : bad_length most_objects (length (words_read file ws)) ≡ false = rw words-length a.length_fine in
      let three = le-ltb (length (words_read file ws) / 2) l.objects (rw words-length a.places) in
      let four : anywhere (strange_object l.attributes) (objects_of l.objects (words_read file ws)) ≡ false =
      rw rows-read (all-anywhere (strange_object l.attributes) _ inM) in
      let five : anywhere marked_twice (objects_of l.objects (words_read file ws)) ≡ false = rw rows-read (all-anywhere marked_twice _ once) in
      none-failing _ (one, (two, (three, (four, (five, tt)))))

-- ---- the lines of an opened table

-- the lines at which its names of each kind and its marks begin, and the lines before its marks
pub record Starts (file : List ℕ) (l : Layout) : Type 0 where
  pub object_start : l.object_names ≡ skipped 5 file 0
  pub attribute_start : l.attribute_names ≡ skipped (5 + l.objects) file 0
  pub mark_start : l.marks ≡ skipped (5 + (l.objects + l.attributes)) file 0
  pub lines : Fine (header ++ replicate (l.objects + l.attributes) Name) (lines_of file)

module _ (file : List ℕ) where
  start-at : (ks : List Kind) (k : ℕ) → length ks ≡ k → Passes (walk ks file 0) → place_of (walk ks file 0) ≡ skipped k file 0
  start-at ks k e p = ap place_of (fine-walk file ks 0 (passes-fine file ks 0 p)) ∙ ap (λ (m : ℕ). skipped m file 0) e

  starts-of : Passes (walk (kinds_to_end file) file 0) → Starts file (layout_of file)
  unfolding layout_of
  starts-of p =
      let o = object_count file in
      let a = attribute_count file in
      let objects : length (replicate o Name) ≡ o = length-replicate o Name in
      let attributes : length (replicate a Name) ≡ a = length-replicate a Name in
      let before : length (to_attribute_names file) ≡ 5 + o = omega (arith, length-append header (replicate o Name)) in
      let all : length (to_marks file) ≡ 5 + (o + a) = omega (arith, length-append (to_attribute_names file) (replicate a Name)) in
      let m = (passes_append file (to_marks file) _ 0 p).0 in
      let n = (passes_append file (to_attribute_names file) (replicate a Name) 0 m).0 in
      let kinds : to_marks file ≡ header ++ replicate (o + a) Name =
      append_assoc header (replicate o Name) (replicate a Name) ∙ ap (λ ks. header ++ ks) (replicate-append-replicate o a Name) in
      record {
        object_start = start-at header 5 refl (passes_append file header (replicate o Name) 0 n).0;
        attribute_start = start-at (to_attribute_names file) (5 + o) before n;
        mark_start = start-at (to_marks file) (5 + (o + a)) all m;
        lines = subst (λ ks. Fine ks (lines_of file)) kinds (passes-fine file (to_marks file) 0 m);
      }

  pub starts : (l : Layout) → opened_of file ≡ Ok l → Starts file l
  starts l e =
      let t = opened-table file l e in
      subst (Starts file) t.0 (starts-of t.1)

-- ---- the names

module _ (file : List ℕ) (l : Layout) (e : opened_of file ≡ Ok l) where
  abbrev count : ℕ
  count = l.objects + l.attributes

  pub lines-enough : 5 + (l.objects + l.attributes) ≤ length (lines_of file)
  lines-enough =
      omega (
        arith,
        fine-count (header ++ replicate count Name) (lines_of file) (starts file l e).lines,
        length-append header (replicate count Name),
        length-replicate count Name,
      )

  module _ (end : ℕ) (h : l.marks ≤ end) where
    abbrev lent : List (List ℕ)
    lent = lines_of (names_up_to file l end)

    -- the lines needed are those behind the first five
    pub first-names : take (l.objects + l.attributes) (lines_of (names_up_to file l end)) ≡ take (l.objects + l.attributes) (drop 5 (lines_of file))
    first-names =
        let s = starts file l e in
        let from = l.object_names in
        let here : skipped 5 file 0 ≡ from + 0 = omega (arith, s.object_start) in
        let last : l.marks ≡ from + skipped count (drop from file) 0 =
        s.mark_start ∙ skipped-add 5 count file 0 ∙ ap (skipped count file) here ∙ skipped-part count file from 0 in
        part-lines count (end - from) (drop from file) (omega arith)
        ∙ ap (λ (m : ℕ). take count (lines_of (drop m file))) s.object_start
        ∙ ap (take count) (lines_left file 5)

    names_fine : Fine (replicate count Name) lent
    names_fine =
        let kinds = replicate count Name in
        let same : take (length kinds) (drop 5 (lines_of file)) ≡ take (length kinds) lent = rw length-replicate (sym first-names) in
        fine-first kinds (drop 5 (lines_of file)) lent same (fine-behind header kinds (lines_of file) (starts file l e).lines)

    pub names-passed : is_failed (names_walk l.attributes l.objects (names_up_to file l end)) ≡ false
    names-passed = ap is_failed (fine-walk (names_up_to file l end) (replicate count Name) 0 names_fine)

    pub names-enough : l.objects + l.attributes ≤ length (lines_of (names_up_to file l end))
    names-enough = omega (arith, fine-count (replicate count Name) lent names_fine, length-replicate count Name)

    name-lent : (i : ℕ) → i < count → get_or lent i [] ≡ bytes_at file (skipped (5 + i) file 0)
    name-lent i k =
        sym (get_or-take count lent i [] k)
        ∙ ap (λ ls. get_or ls i []) first-names
        ∙ get_or-take count (drop 5 (lines_of file)) i [] k
        ∙ get_or-drop 5 (lines_of file) i []
        ∙ sym (start-bytes file (5 + i) (omega (arith, lines-enough)))

    pub object-lent : (k : ℕ) → k < l.objects → get_or (lines_of (names_up_to file l end)) k [] ≡ object_name file l k
    object-lent k b =
        name-lent k (omega arith)
        ∙ ap (bytes_at file) (skipped-add 5 k file 0 ∙ ap (skipped k file) (sym (starts file l e).object_start))
        ∙ sym (ap (bytes_of file) (span-there (finds file l) l.objects l.object_names k file ((finds-table file l).1 e) b))

    pub attribute-lent : (k : ℕ) → k < l.attributes → get_or (lines_of (names_up_to file l end)) (l.objects + k) [] ≡ attribute_name file l k
    attribute-lent k b =
        let i : 5 + (l.objects + k) ≡ 5 + l.objects + k = omega arith in
        name-lent (l.objects + k) (omega arith)
        ∙ ap (λ (m : ℕ). bytes_at file (skipped m file 0)) i
        ∙ ap (bytes_at file) (skipped-add (5 + l.objects) k file 0 ∙ ap (skipped k file) (sym (starts file l e).attribute_start))
        ∙ sym (ap (bytes_of file) (span-there (finds file l) l.attributes l.attribute_names k file ((finds-table file l).1 e) b))
