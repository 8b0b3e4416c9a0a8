-- A name is the bytes of its line (`span-name`), which lie inside the file (`span-inside`, `object-span-inside`,
-- `attribute-span-inside`). No name is empty, and none has more than 80 bytes (`object-name-some`, `attribute-name-some`). So the refusal
-- is 3 just for a number past the last and for a layout that reading the file does not find (`object-refused`, `attribute-refused`). No
-- byte of a name is a line feed or a carriage return (`object-name-no-end`, `attribute-name-no-end`).
use Rattle.std.specs.Prelude.{◌≡◌, refl, Bool, true, false, ◌&&◌, List, [], take, drop, replicate, ltb, leb, Ok}
use Rattle.std.proofs.Common.{sym, ap, ◌∙◌, arith}
use Rattle.std.proofs.Math.Bool.{and-eq-true_iff}
use Prim.Native.Nat.{ℕ, zero, suc, ◌+◌, ◌≤◌, ◌<◌}
use Rattle.std.proofs.Math.ListN.{length}
use borrow.Author.Tests.{ltb-true, leb-true, ne_eqb}
use Rattle.theory.specs.Lists.{All}
use Rattle.theory.proofs.Lists.Laws.{all_nil}
use Rattle.table_kinds.specs.declared.Kind.{Kind}
use Rattle.table_kinds.specs.declared.Kind.TheVariants.{Name}
use Rattle.table_layout.specs.declared.Layout.{Layout}
use Rattle.table_lines.specs.Lines.{NoEnd, line_of, bytes_at, after, skipped}
use Rattle.table_lines.proofs.Lines.Laws.{bytes_inside, bytes-no-end, skipped-inside}
use Rattle.line_tests.specs.Tests.{most_name_bytes}
use Rattle.line_faults.specs.Faults.{fault}
use Rattle.line_walk.specs.Walk.{line_fault, walk}
use Rattle.table_walk.specs.Walk.{Passes}
use Rattle.table_header.specs.Header.{header, object_count, attribute_count}
use Rattle.table_layout.specs.Layout.{to_attribute_names, to_marks, layout_of, opened_of}
use Rattle.found_layout.specs.Found.{finds}
use Rattle.found_layout.proofs.Found.Laws.{finds-table}
use Rattle.line_tests.proofs.Tests.Laws.{unless-fine}
use Rattle.table_walk.proofs.Walk.Passed.{line-there, passes_append, passes-cons}
use Rattle.table_layout.proofs.OfLayout.Passed.{opened-table, starts-inside}
use Rattle.name_spans.specs.declared.Span.{Span}
use Rattle.name_spans.proofs.Spans.Laws.{span-there}
use Rattle.name_spans.specs.Spans.{span, span_from, object_span, attribute_span}
use Rattle.table_names.specs.Names.{bytes_of, name_from, object_name, attribute_name, name_refusal}

-- ---- a name by its number

module _ (found : Bool) (count start k : ℕ) (file : List ℕ) where
  -- the bytes there are those of the name's line
  pub span-name : name_from found count start k file ≡ elim (found && ltb k count) [ true ↦ bytes_at file (skipped k file start) | false ↦ [] ]
  span-name = go (found && ltb k count)
    where
      go : (b : Bool)
          → let s = elim b as (λ x. Span) [
            | true ↦ span (skipped k file start) (line_of (drop (skipped k file start) file)).size
            | false ↦ span 0 0
          ] in
          ◌≡◌ {A = List ℕ} (bytes_of file s) (elim b [ true ↦ bytes_at file (skipped k file start) | false ↦ [] ])
      go true = refl
      go false = refl

  name-there : found ≡ true → k < count → name_from found count start k file ≡ bytes_at file (skipped k file start)
  name-there e h = ap (bytes_of file) (span-there found count start k file e h)

  -- none is one of an end
  name-no-end : All NoEnd (name_from found count start k file)
  name-no-end = rw span-name (go (found && ltb k count))
    where
      go : (b : Bool) → All NoEnd (elim b [ true ↦ bytes_at file (skipped k file start) | false ↦ [] ])
      go true = bytes-no-end file (skipped k file start)
      go false = all_nil _

  -- and lie inside the file
  pub span-inside : (found ≡ true → start ≤ length file) → (span_from found count start k file).at + (span_from found count start k file).size ≤ length file
  span-inside h = go (found && ltb k count) refl
    where
      go : (b : Bool) → (found && ltb k count) ≡ b
          → let s = elim b as (λ x. Span) [
            | true ↦ span (skipped k file start) (line_of (drop (skipped k file start) file)).size
            | false ↦ span 0 0
          ] in
          s.at + s.size ≤ length file
      go true e = bytes_inside file (skipped k file start) (skipped-inside k file start (h ((and-eq-true_iff found _).0 e).0))
      go false e = omega arith

module _ (file : List ℕ) (l : Layout) (k : ℕ) where
  pub object-name-no-end : All NoEnd (object_name file l k)
  object-name-no-end = name-no-end (finds file l) l.objects l.object_names k file

  pub attribute-name-no-end : All NoEnd (attribute_name file l k)
  attribute-name-no-end = name-no-end (finds file l) l.attributes l.attribute_names k file

  pub object-span-inside : (object_span file l k).at + (object_span file l k).size ≤ length file
  object-span-inside =
      span-inside (finds file l) l.objects l.object_names k file λ e. (starts-inside file l ((finds-table file l).0 e)).0

  pub attribute-span-inside : (attribute_span file l k).at + (attribute_span file l k).size ≤ length file
  attribute-span-inside =
      span-inside (finds file l) l.attributes l.attribute_names k file λ e. (starts-inside file l ((finds-table file l).0 e)).1

-- ---- no name is empty

module _ (file : List ℕ) where
  -- each of the lines of a kind that pass is fine
  passes-each : (kind : Kind) (count k at : ℕ) → k < count → Passes (walk (replicate count kind) file at)
      → line_fault kind file (skipped k file at) ≡ 0
  unfolding skipped
  passes-each kind zero k at h p = absurd (omega arith)
  passes-each kind (suc n) zero at h p = (passes-cons file kind _ at p).0
  passes-each kind (suc n) (suc k) at h p = passes-each kind n k (after file at) (omega arith) (passes-cons file kind _ at p).1

  name-fine : (at : ℕ) → line_fault Name file at ≡ 0 → (0 < length (bytes_at file at)) × (length (bytes_at file at) ≤ most_name_bytes)
  unfolding fault
  name-fine at e =
      let n = length (bytes_at file at) in
      let t = (and-eq-true_iff (ltb 0 n) (leb n most_name_bytes)).0 (unless-fine _ 25 (line-there file Name at e).1) in
      (ltb-true _ _ t.0, leb-true _ _ t.1)

  name-some : (found : Bool) (count start k : ℕ) → found ≡ true → k < count → Passes (walk (replicate count Name) file start)
      → (0 < length (name_from found count start k file)) × (length (name_from found count start k file) ≤ most_name_bytes)
  name-some found count start k e h p =
      rw (name-there found count start k file e h) (name-fine _ (passes-each Name count k start h p))

module _ (file : List ℕ) (l : Layout) (k : ℕ) (e : opened_of file ≡ Ok l) where
  -- the names of both kinds pass
  names-passed : Passes (walk (replicate l.objects Name) file l.object_names)
      × Passes (walk (replicate l.attributes Name) file l.attribute_names)
  unfolding layout_of
  names-passed =
      let t = opened-table file l e in
      let m = (passes_append file (to_marks file) _ 0 t.1).0 in
      let n = passes_append file (to_attribute_names file) (replicate (attribute_count file) Name) 0 m in
      rw (sym t.0) ((passes_append file header (replicate (object_count file) Name) 0 n.0).1, n.1)

  pub object-name-some : k < l.objects → (0 < length (object_name file l k)) × (length (object_name file l k) ≤ most_name_bytes)
  object-name-some h = name-some file (finds file l) l.objects l.object_names k ((finds-table file l).1 e) h names-passed.0

  pub attribute-name-some : k < l.attributes → (0 < length (attribute_name file l k)) × (length (attribute_name file l k) ≤ most_name_bytes)
  attribute-name-some h =
      name-some file (finds file l) l.attributes l.attribute_names k ((finds-table file l).1 e) h names-passed.1

-- ---- the refusal

some-fine : (file : List ℕ) (s : Span) → 0 < length (bytes_of file s) → name_refusal s ≡ 0
some-fine file s h = rw (name_refusal, ne_eqb s.size 0 λ e. absurd (none s.size e h))
  where
    none : (k : ℕ) → k ≡ 0 → 0 < length (take k (drop s.at file)) → ⊥
    none zero e h = omega arith
    none (suc k) e h = omega arith

refused-from : (found : Bool) (count start k : ℕ) (file : List ℕ)
    → (found ≡ true → k < count → 0 < length (name_from found count start k file))
    → name_refusal (span_from found count start k file) ≡ elim (found && ltb k count) [ true ↦ 0 | false ↦ 3 ]
refused-from found count start k file some = go (found && ltb k count) refl
  where
    number : Bool → ℕ
    number b = elim b [ true ↦ 0 | false ↦ 3 ]

    go : (b : Bool) → (found && ltb k count) ≡ b → name_refusal (span_from found count start k file) ≡ number (found && ltb k count)
    go true e =
        let t = (and-eq-true_iff found (ltb k count)).0 e in
        some-fine file (span_from found count start k file) (some t.0 (ltb-true _ _ t.1)) ∙ ap number (sym e)
    go false e =
        let nowhere : span_from found count start k file ≡ span 0 0 = rw (span_from, e) in
        ap name_refusal nowhere ∙ ap number (sym e)

module _ (file : List ℕ) (l : Layout) (k : ℕ) where
  pub object-refused : name_refusal (object_span file l k) ≡ elim (finds file l && ltb k l.objects) [ true ↦ 0 | false ↦ 3 ]
  object-refused =
      refused-from (finds file l) l.objects l.object_names k file λ e h. (object-name-some file l k ((finds-table file l).0 e) h).0

  pub attribute-refused : name_refusal (attribute_span file l k) ≡ elim (finds file l && ltb k l.attributes) [ true ↦ 0 | false ↦ 3 ]
  attribute-refused =
      refused-from (finds file l) l.attributes l.attribute_names k file λ e h. (attribute-name-some file l k ((finds-table file l).0 e) h).0
