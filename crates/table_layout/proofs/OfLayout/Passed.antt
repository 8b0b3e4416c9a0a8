-- Of an opened table the lines of marks pass from where it says that they begin (`table-marks`); it has 1 to 64 attributes
-- (`table-attributes`) and at most 512 objects (`table-objects`), and its parts begin inside the file (`starts-inside`).
use Rattle.std.proofs.Math.Path.{◌≡◌}
use Rattle.std.proofs.Common.{sym}
use Rattle.std.specs.Prelude.{Bool, true, false, List, ℕ, ◌≤◌, ◌<◌, replicate, ltb, Result, Ok, Err}
use native.Mathlib.Omega.{arith}
use Rattle.std.proofs.Math.ListN.{length}
use Rattle.table_kinds.specs.declared.Kind.TheVariants.{Objects, Attributes, Marks}
use Rattle.session.specs.declared.Refusal.{Refusal}
use Rattle.session.specs.Refusals.{refusal}
use Rattle.table_header.specs.Header.{object_count, attribute_count, header, objects_at, attributes_at}
use Rattle.table_layout.specs.Layout.{most_bytes, to_attribute_names, to_marks, kinds_to_end, layout_of, opened_from, opened_of}
use Rattle.line_walk.specs.Walk.{walk}
use Rattle.table_walk.specs.Walk.{rest, then_rest, Passes}
use Rattle.table_layout.specs.declared.Layout.{Layout}
use Rattle.session.specs.Limits.{most_attributes, most_objects}
use Rattle.table_walk.proofs.Walk.Laws.{place_inside}
use Rattle.table_walk.proofs.Walk.Passed.{line-there, passes-cons, passes_append}
use Rattle.line_faults.proofs.Faults.Laws.{objects-fine, attributes-fine}

module _ (file : List ℕ) where
  -- both counts of a file whose lines pass are in range
  counts-fine : Passes (walk (kinds_to_end file) file 0)
      → (object_count file ≤ most_objects) × ((0 < attribute_count file) × (attribute_count file ≤ most_attributes))
  counts-fine p =
      let x = passes-cons file _ _ _ (passes-cons file _ _ _ (passes-cons file _ _ _ p).1).1 in
      let y = passes-cons file _ _ _ x.1 in
      ((objects-fine _ (line-there file Objects (objects_at file) x.0).1).1, attributes-fine _ (line-there file Attributes (attributes_at file) y.0).1)

  -- a table was opened: it is the file's, and every line needed passes
  pub opened-table : (l : Layout) → opened_of file ≡ Ok l → (layout_of file ≡ l) × Passes (walk (kinds_to_end file) file 0)
  unfolding opened_of
  opened-table l e = go (ltb most_bytes (length file)) (walk (kinds_to_end file) file 0) e
    where
      ended : (w : Result ℕ Refusal) → opened_from (layout_of file) w ≡ Ok l → layout_of file ≡ l
      ended (Ok m) z = cc
      ended (Err r) z = let n : ◌≡◌ {A = ℕ} 0 1 = cc in absurd (omega arith)

      go : (b : Bool) (w : Result ℕ Refusal)
          → elim b as (λ z. Result Layout Refusal) [
            | true ↦ Err (refusal 21 most_bytes)
            | false ↦ opened_from (layout_of file) (then_rest file w)
          ] ≡ Ok l
          → (layout_of file ≡ l) × Passes w
      go true w z = let n : ◌≡◌ {A = ℕ} 0 1 = cc in absurd (omega arith)
      go false (Ok m) z = (ended (rest (length file) file m) z, tt)
      go false (Err r) z = let n : ◌≡◌ {A = ℕ} 0 1 = cc in absurd (omega arith)

  module _ (l : Layout) (e : opened_of file ≡ Ok l) where
    counts : (l.objects ≤ most_objects) × ((0 < l.attributes) × (l.attributes ≤ most_attributes))
    unfolding layout_of
    counts =
        let t = opened-table l e in
        rw (sym t.0) (counts-fine t.1)

    pub table-objects : l.objects ≤ most_objects
    table-objects = counts.0

    pub table-attributes : (0 < l.attributes) × (l.attributes ≤ most_attributes)
    table-attributes = counts.1

    -- its names and its marks begin inside the file
    pub starts-inside : (l.object_names ≤ length file) × (l.attribute_names ≤ length file) × (l.marks ≤ length file)
    unfolding layout_of
    starts-inside =
        let h : 0 ≤ length file = omega arith in
        rw (sym (opened-table l e).0)
        (place_inside file header 0 h, place_inside file (to_attribute_names file) 0 h, place_inside file (to_marks file) 0 h)

    -- where it has its marks
    pub table-marks : (l.attributes ≤ most_attributes)
        × (l.marks ≤ length file)
        × Passes (walk (replicate l.objects (Marks l.attributes)) file l.marks)
    unfolding layout_of
    table-marks =
        let t = opened-table l e in
        (counts.1.1, starts-inside.2, rw (sym t.0) (passes_append file (to_marks file) _ 0 t.1).1)
