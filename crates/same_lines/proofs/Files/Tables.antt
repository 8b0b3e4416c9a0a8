-- Two files with the same lines have the same counts and the same names, and their names and marks begin at the same lines
-- (`layout-same`, `name-same`); what a file is opened as, what it is opened as where it has to be complete, and what is read into lent
-- words say the same then (`opened-same`, `complete-same`, `reading-same`, `words_same`).
use Rattle.std.specs.Prelude.{◌≡◌, refl, Bool, List, [], ◌++◌, length, drop, replicate, ltb, Result, Ok, Err}
use Rattle.std.proofs.Common.{sym, ap, subst, ◌∙◌}
use Rattle.std.proofs.Math.Bool.{true, false}
use Prim.Native.Nat.{ℕ, zero, suc, ◌≤◌, ◌*◌, ◌/◌}
use Rattle.session.specs.declared.Refusal.{Refusal}
use Rattle.table_kinds.specs.declared.Kind.{Kind}
use Rattle.table_kinds.specs.declared.Kind.TheVariants.{Name, Marks}
use Rattle.session.specs.Limits.{most_objects, bad_length}
use Rattle.session.specs.Refusals.{refusal}
use Rattle.table_layout.specs.declared.Layout.{Layout}
use Rattle.table_lines.specs.Lines.{bytes_at, after}
use Rattle.table_lines.specs.Pieces.{lines_of}
use Rattle.line_bytes.specs.Everywhere.{everywhere}
use Rattle.table_bytes.specs.Bytes.{is_known}
use Rattle.table_counts.specs.Counts.{count_of}
use Rattle.table_header.specs.Header.{object_count, attribute_count, header}
use Rattle.line_walk.specs.Walk.{walk}
use Rattle.table_walk.specs.Walk.{place_of, then_rest}
use Rattle.table_layout.specs.Layout.{most_bytes, to_attribute_names, to_marks, kinds_to_end, layout_of, opened_from, opened_of}
use Rattle.table_layout.proofs.OfLayout.Laws.{opened-walked}
use Rattle.found_layout.specs.Found.{finds}
use Rattle.found_layout.proofs.Found.Laws.{finds-table}
use Rattle.complete_tables.specs.Complete.{complete_from, complete_of}
use Rattle.table_rows.specs.Rows.{rows_from}
use Rattle.table_names.specs.Names.{name_from}
use Rattle.table_names.proofs.Names.Laws.{span-name}
use Rattle.mark_reading.specs.Marks.{flat, reading_from, reading_of, words_of_rows}
use Rattle.same_lines.specs.Files.{SameLine, SameLayout, SameTable, SameAnswer}
use Rattle.same_lines.proofs.Files.Walks.{SameWalk, start, bytes_same, after_same, skip-same, walk_same, rest-same, place_same, rows_same}

module _ (f g : List ℕ) (e : lines_of f ≡ lines_of g) where
  -- ---- the counts, and the layouts

  objects-same : object_count f ≡ object_count g
  objects-same = ap count_of (bytes_same f g e _ _ (after_same f g e _ _ (after_same f g e 0 0 (start f g e))))

  attributes-same : attribute_count f ≡ attribute_count g
  attributes-same =
      ap count_of (bytes_same f g e _ _ (after_same f g e _ _ (after_same f g e _ _ (after_same f g e 0 0 (start f g e)))))

  names_same : to_attribute_names g ≡ to_attribute_names f
  names_same = ap (λ m. header ++ replicate m Name) (sym objects-same)

  marks-same : to_marks g ≡ to_marks f
  marks-same =
      ap (λ ks. ks ++ replicate (attribute_count g) Name) names_same
      ∙ ap (λ m. to_attribute_names f ++ replicate m Name) (sym attributes-same)

  end_same : kinds_to_end g ≡ kinds_to_end f
  end_same =
      ap (λ ks. ks ++ replicate (object_count g) (Marks (attribute_count g))) marks-same
      ∙ ap (λ m. to_marks f ++ replicate m (Marks (attribute_count g))) (sym objects-same)
      ∙ ap (λ m. to_marks f ++ replicate (object_count f) (Marks m)) (sym attributes-same)

  walks_same : (ks ls : List Kind) → ls ≡ ks → SameWalk f g (walk ks f 0) (walk ls g 0)
  walks_same ks ls d = rw d (walk_same f g e ks 0 0 (start f g e))

  places_same : (ks ls : List Kind) → ls ≡ ks → SameLine f g (place_of (walk ks f 0)) (place_of (walk ls g 0))
  places_same ks ls d = place_same f g e (walk ks f 0) (walk ls g 0) (walks_same ks ls d)

  layout-same : SameLayout f g (layout_of f) (layout_of g)
  unfolding layout_of
  layout-same = record {
    objects = objects-same;
    attributes = attributes-same;
    object_lines = places_same header header refl;
    attribute_lines = places_same (to_attribute_names f) (to_attribute_names g) names_same;
    lines_of_marks = places_same (to_marks f) (to_marks g) marks-same;
  }

  -- ---- the names

  name-same : (found found' : Bool) (count count' at at' k : ℕ) → found ≡ true → found' ≡ true → count ≡ count' → SameLine f g at at'
      → name_from found count at k f ≡ name_from found' count' at' k g
  name-same found found' count count' at at' k h h' c s =
      rw (span-name found count at k f, span-name found' count' at' k g, h, h', c)
      (ap (λ bs. elim (ltb k count') [ true ↦ bs | false ↦ [] ]) (bytes_same f g e _ _ (skip-same f g e k at at' s)))

  table_same : (l l' : Layout) → opened_of f ≡ Ok l → opened_of g ≡ Ok l' → SameLayout f g l l' → SameTable f g l l'
  table_same l l' p p' s = record {
    layout = s;
    object_names = λ k.
        name-same (finds f l) (finds g l') _ _ _ _ k ((finds-table f l).1 p) ((finds-table g l').1 p') s.objects s.object_lines;
    attribute_names = λ k.
        name-same (finds f l) (finds g l') _ _ _ _ k ((finds-table f l).1 p) ((finds-table g l').1 p') s.attributes s.attribute_lines;
    rows = ap (λ (k : ℕ). rows_from k f l.marks) s.objects ∙ rows_same f g e l'.objects l.marks l'.marks s.lines_of_marks;
  }

  -- ---- what the files are opened as

  opened-walked-same : (w w' : Result ℕ Refusal) → SameWalk f g w w' → opened_of f ≡ opened_from (layout_of f) w → opened_of g ≡ opened_from (layout_of g) w'
      → SameAnswer f g (opened_from (layout_of f) w) (opened_from (layout_of g) w')
  opened-walked-same (Ok at) (Ok at') s p p' = table_same (layout_of f) (layout_of g) p p' layout-same
  opened-walked-same (Ok at) (Err r) s p p' = absurd s
  opened-walked-same (Err r) (Ok at) s p p' = absurd s
  opened-walked-same (Err r) (Err r') s p p' = s

  pub opened-same : length f ≤ most_bytes → length g ≤ most_bytes → SameAnswer f g (opened_of f) (opened_of g)
  opened-same h h' =
      let w = walk (kinds_to_end f) f 0 in
      let w' = walk (kinds_to_end g) g 0 in
      let p = opened-walked f h (then_rest f w) refl in
      let p' = opened-walked g h' (then_rest g w') refl in
      let s = rest-same f g e w w' (walks_same (kinds_to_end f) (kinds_to_end g) end_same) in
      rw (p, p') (opened-walked-same (then_rest f w) (then_rest g w') s p p')

  -- ---- complete tables

  complete-from-same : (k : ℕ) (l l' : Layout) (at at' : ℕ) → SameTable f g l l' → SameLine f g at at'
      → SameAnswer f g (complete_from k l f at) (complete_from k l' g at')
  unfolding complete_from
  complete-from-same zero l l' at at' t s = t
  complete-from-same (suc k) l l' at at' t s =
      rw (complete_from, ← bytes_same f g e at at' s)
      (go (everywhere is_known (bytes_at f at)) _ _ (complete-from-same k l l' (after f at) (after g at') t (after_same f g e at at' s)))
    where
      go : (t : Bool) (o o' : Result Layout Refusal) → SameAnswer f g o o'
          → SameAnswer f g (elim t [ true ↦ o | false ↦ Err (refusal 29 at) ]) (elim t [ true ↦ o' | false ↦ Err (refusal 29 at') ])
      go true o o' a = a
      go false o o' a = (refl, s)

  pub complete-same : (o o' : Result Layout Refusal) → SameAnswer f g o o' → SameAnswer f g (complete_of f o) (complete_of g o')
  complete-same (Ok l) (Ok l') a =
      subst (λ (k : ℕ). SameAnswer f g (complete_from l.objects l f l.marks) (complete_from k l' g l'.marks)) a.layout.objects
      (complete-from-same l.objects l l' l.marks l'.marks a a.layout.lines_of_marks)
  complete-same (Ok l) (Err r) a = absurd a
  complete-same (Err r) (Ok l) a = absurd a
  complete-same (Err r) (Err r') a = a

  -- ---- read into lent words

  -- refused at place 0, where the first line of both is, or not
  refused-or : (number : ℕ) (t : Bool) (o o' : Result Layout Refusal) → SameAnswer f g o o'
      → SameAnswer f g (elim t [ true ↦ Err (refusal number 0) | false ↦ o ]) (elim t [ true ↦ Err (refusal number 0) | false ↦ o' ])
  refused-or number true o o' a = (refl, start f g e)
  refused-or number false o o' a = a

  module _ (words : ℕ) where
    pub reading-same : (o o' : Result Layout Refusal) → SameAnswer f g o o' → SameAnswer f g (reading_of words o) (reading_of words o')
    unfolding reading_of
    reading-same o o' a = refused-or 2 (bad_length most_objects words) _ _ (from o o' a)
      where
        from : (x x' : Result Layout Refusal) → SameAnswer f g x x' → SameAnswer f g (reading_from words x) (reading_from words x')
        from (Ok l) (Ok l') b = rw (reading_from, ← b.layout.objects) (refused-or 3 (ltb (words / 2) l.objects) (Ok l) (Ok l') b)
        from (Ok l) (Err r) b = absurd b
        from (Err r) (Ok l) b = absurd b
        from (Err r) (Err r') b = b

  pub words_same : (words : List ℕ) (o o' : Result Layout Refusal) → SameAnswer f g o o' → words_of_rows o f words ≡ words_of_rows o' g words
  words_same words (Ok l) (Ok l') a =
      ap (λ rows. flat rows ++ drop (l.objects * 2) words) a.rows
      ∙ ap (λ (k : ℕ). flat (rows_from l'.objects g l'.marks) ++ drop (k * 2) words) a.layout.objects
  words_same words (Ok l) (Err r) a = absurd a
  words_same words (Err r) (Ok l) a = absurd a
  words_same words (Err r) (Err r') a = refl
