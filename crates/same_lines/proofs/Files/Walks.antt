-- Of two files with the same lines, at the same line of each: there is a line in both or in neither, it has the same bytes and the same
-- faults, and the next one is the same line again. So lines walked are refused at the same line or end at the same line (`walk_same`,
-- `rest-same`), and the rows are the same (`rows_same`).
use Rattle.std.specs.Prelude.{◌≡◌, length, get_or, eqb, ltb, Result, Ok, Err}
use Rattle.std.proofs.Math.Path.{refl, ap₂, subst}
use Rattle.std.proofs.Common.{sym, ap, ◌∙◌, ltb-true, ltb-false, lt-ltb, le-ltb}
use Rattle.std.proofs.Math.Bool.{Bool, true, false}
use mathlib.Core.List.{List, [], ◌∷◌}
use Prim.Native.Nat.{ℕ, zero, suc, ◌+◌, ◌≤◌}
use native.Mathlib.Omega.{arith}
use Rattle.session.specs.declared.Refusal.{Refusal}
use Rattle.table_kinds.specs.declared.Kind.{Kind}
use Rattle.session.specs.Refusals.{refusal}
use Rattle.table_lines.specs.Lines.{bytes_at, after, skipped}
use Rattle.table_lines.proofs.Lines.Laws.{bytes_past, after-past, skipped-suc}
use Rattle.table_lines.specs.Pieces.{lines_of}
use Rattle.table_lines.proofs.Pieces.Laws.{start-there, start-end, start-bytes}
use Rattle.table_kinds.specs.Kinds.{absent}
use Rattle.line_faults.specs.Faults.{fault}
use Rattle.line_walk.specs.Walk.{line_fault, walk}
use Rattle.table_walk.specs.Walk.{rest, then_rest, place_of}
use Rattle.table_walk.proofs.Walk.Laws.{rest-enough}
use Rattle.table_rows.specs.Rows.{row_of, rows_from}
use Rattle.same_lines.specs.Files.{SameLine, SameRefusal}

-- walks that end at the same line, or are refused alike
abbrev pub SameWalk : List ℕ → List ℕ → Result ℕ Refusal → Result ℕ Refusal → Type 0
SameWalk f g (Ok at) (Ok at') = SameLine f g at at'
SameWalk f g (Ok at) (Err r') = ⊥
SameWalk f g (Err r) (Ok at') = ⊥
SameWalk f g (Err r) (Err r') = SameRefusal f g r r'

-- there is a line i just if i is below the number of lines
module _ (file : List ℕ) (i : ℕ) where
  past : length (lines_of file) ≤ i → length file ≤ skipped i file 0
  past h = omega (arith, start-end file i h)

  there : ltb (skipped i file 0) (length file) ≡ ltb i (length (lines_of file))
  there = go (ltb i (length (lines_of file))) refl
    where
      go : (t : Bool) → ltb i (length (lines_of file)) ≡ t → ltb (skipped i file 0) (length file) ≡ ltb i (length (lines_of file))
      go true e = lt-ltb _ _ (start-there file i (ltb-true _ _ e)) ∙ sym e
      go false e = le-ltb _ _ (past (ltb-false _ _ e)) ∙ sym e

module _ (f g : List ℕ) (e : lines_of f ≡ lines_of g) where
  pub start : SameLine f g 0 0
  unfolding skipped
  start = (0, omega arith, refl, refl)

  -- line i of both
  module _ (i : ℕ) where
    there-both : ltb (skipped i f 0) (length f) ≡ ltb (skipped i g 0) (length g)
    there-both = there f i ∙ ap (λ ls. ltb i (length ls)) e ∙ sym (there g i)

    bytes-both : bytes_at f (skipped i f 0) ≡ bytes_at g (skipped i g 0)
    bytes-both = go (ltb i (length (lines_of f))) refl
      where
        go : (t : Bool) → ltb i (length (lines_of f)) ≡ t → bytes_at f (skipped i f 0) ≡ bytes_at g (skipped i g 0)
        go true t =
            let h = ltb-true _ _ t in
            start-bytes f i h ∙ ap (λ ls. get_or ls i []) e ∙ sym (start-bytes g i (rw (sym e) h))
        go false t =
            let h = ltb-false _ _ t in
            let h' : length (lines_of g) ≤ i = rw (sym e) h in
            bytes_past f _ (past f i h) ∙ sym (bytes_past g _ (past g i h'))

    after_both : i ≤ length (lines_of f) → SameLine f g (after f (skipped i f 0)) (after g (skipped i g 0))
    after_both b = go (ltb i (length (lines_of f))) refl
      where
        go : (t : Bool) → ltb i (length (lines_of f)) ≡ t → SameLine f g (after f (skipped i f 0)) (after g (skipped i g 0))
        go true t = (suc i, ltb-true _ _ t, sym (skipped-suc i f 0), sym (skipped-suc i g 0))
        go false t =
            let h = ltb-false _ _ t in
            let h' : length (lines_of g) ≤ i = rw (sym e) h in
            (i, b, after-past f _ (past f i h), after-past g _ (past g i h'))

  module _ (at at' : ℕ) (s : SameLine f g at at') where
    there-same : ltb at (length f) ≡ ltb at' (length g)
    there-same = rw (s.2, s.3) (there-both s.0)

    pub bytes_same : bytes_at f at ≡ bytes_at g at'
    bytes_same = rw (s.2, s.3) (bytes-both s.0)

    pub after_same : SameLine f g (after f at) (after g at')
    after_same = rw (s.2, s.3) (after_both s.0 s.1)

    fault-same : (k : Kind) → line_fault k f at ≡ line_fault k g at'
    unfolding line_fault
    fault-same k = ap₂ (λ (b : Bool) (bs : List ℕ). elim b [ true ↦ fault k bs | false ↦ absent k ]) there-same bytes_same

  pub skip-same : (k at at' : ℕ) → SameLine f g at at' → SameLine f g (skipped k f at) (skipped k g at')
  unfolding skipped
  skip-same zero at at' s = s
  skip-same (suc k) at at' s = skip-same k (after f at) (after g at') (after_same at at' s)

  -- a line that is fine, and then more; or a line refused
  next-same : (t : Bool) (number at at' : ℕ) (w w' : Result ℕ Refusal) → SameLine f g at at' → SameWalk f g w w'
      → SameWalk f g (elim t [ true ↦ w | false ↦ Err (refusal number at) ]) (elim t [ true ↦ w' | false ↦ Err (refusal number at') ])
  next-same true number at at' w w' s v = v
  next-same false number at at' w w' s v = (refl, s)

  pub walk_same : (ks : List Kind) (at at' : ℕ) → SameLine f g at at' → SameWalk f g (walk ks f at) (walk ks g at')
  unfolding walk
  walk_same [] at at' s = s
  walk_same (k ∷ ks) at at' s =
      subst (λ m. SameWalk f g (walk (k ∷ ks) f at) (elim (eqb m 0) [ true ↦ walk ks g (after g at') | false ↦ Err (refusal m at') ]))
      (fault-same at at' s k) (next-same (eqb (line_fault k f at) 0) _ at at' _ _ s (walk_same ks _ _ (after_same at at' s)))

  rest_both : (k at at' : ℕ) → SameLine f g at at' → SameWalk f g (rest k f at) (rest k g at')
  unfolding rest
  rest_both zero at at' s = s
  rest_both (suc k) at at' s =
      subst (λ t. SameWalk f g (rest (suc k) f at) (step t (bytes_at g at'))) (there-same at at' s)
      (subst (λ bs. SameWalk f g (rest (suc k) f at) (step (ltb at (length f)) bs)) (bytes_same at at' s)
      (go (ltb at (length f)) _ _ (next-same (eqb (length (bytes_at f at)) 0) 28 at at' _ _ s (rest_both k _ _ (after_same at at' s)))))
    where
      step : Bool → List ℕ → Result ℕ Refusal
      step t bs =
          elim t [ true ↦ elim (eqb (length bs) 0) [ true ↦ rest k g (after g at') | false ↦ Err (refusal 28 at') ] | false ↦ Ok at' ]

      go : (t : Bool) (w w' : Result ℕ Refusal) → SameWalk f g w w' → SameWalk f g (elim t [ true ↦ w | false ↦ Ok at ]) (elim t [ true ↦ w' | false ↦ Ok at' ])
      go true w w' v = v
      go false w w' v = s

  -- each file with as many lines as it has bytes
  pub rest-same : (w w' : Result ℕ Refusal) → SameWalk f g w w' → SameWalk f g (then_rest f w) (then_rest g w')
  rest-same (Ok at) (Ok at') s =
      let k = length f + length g in
      subst (λ w. SameWalk f g w (rest (length g) g at')) (rest-enough f k (length f) at (omega arith) (omega arith))
      (subst (SameWalk f g (rest k f at)) (rest-enough g k (length g) at' (omega arith) (omega arith)) (rest_both k at at' s))
  rest-same (Ok at) (Err r) s = absurd s
  rest-same (Err r) (Ok at) s = absurd s
  rest-same (Err r) (Err r') s = s

  -- where walks end, or were refused
  pub place_same : (w w' : Result ℕ Refusal) → SameWalk f g w w' → SameLine f g (place_of w) (place_of w')
  place_same (Ok at) (Ok at') s = s
  place_same (Ok at) (Err r) s = absurd s
  place_same (Err r) (Ok at) s = absurd s
  place_same (Err r) (Err r') s = s.1

  pub rows_same : (k at at' : ℕ) → SameLine f g at at' → rows_from k f at ≡ rows_from k g at'
  unfolding rows_from
  rows_same zero at at' s = refl
  rows_same (suc k) at at' s =
      ap₂ ◌∷◌ (ap row_of (bytes_same at at' s)) (rows_same k (after f at) (after g at') (after_same at at' s))
