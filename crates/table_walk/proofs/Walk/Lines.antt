-- A walk by the lines that it meets: lines that are there, each without a fault as one of its kind (`Fine`), pass and are all passed
-- (`fine-walk`), and lines that pass are such lines (`passes-fine`). Such lines in parts, how many there are, and those of one kind
-- (`fine-append` to `fine-taken`).
use Rattle.std.specs.Prelude.{◌≡◌, Bool, true, false, ℕ, zero, suc, ◌≤◌, ◌<◌, length, drop, take, replicate, ltb, Ok}
use Rattle.std.proofs.Math.Path.{refl}
use Rattle.std.proofs.Common.{sym, ap, subst, ◌∙◌, arith, ltb-true, ltb-false}
use mathlib.Core.List.{List, [], ◌∷◌, ◌++◌}
use Rattle.table_kinds.specs.declared.Kind.{Kind}
use Rattle.table_lines.specs.Lines.{bytes_at, after, skipped}
use Rattle.table_lines.specs.Pieces.{lines_of}
use Rattle.table_lines.proofs.Pieces.Laws.{lines_at, lines_end}
use Rattle.line_faults.specs.Faults.{fault}
use Rattle.line_walk.specs.Walk.{walk}
use Rattle.line_walk.proofs.OfWalk.Laws.{fault-there, walk-passed}
use Rattle.table_walk.specs.Walk.{Passes}
use Rattle.table_walk.proofs.Walk.Passed.{line-there, passes-cons}

-- for each kind there is a line, and it has no fault as one of that kind
abbrev pub Fine : List Kind → List (List ℕ) → Type 0
Fine [] ls = Unit {0}
Fine (k ∷ ks) [] = ⊥
Fine (k ∷ ks) (l ∷ ls) = (fault k l ≡ 0) × Fine ks ls

module _ (file : List ℕ) where
  -- the first line and the others
  fine-there : (k : Kind) (ks : List Kind) (at : ℕ) → Fine (k ∷ ks) (lines_of (drop at file))
      → (at < length file) × (fault k (bytes_at file at) ≡ 0) × Fine ks (lines_of (drop (after file at) file))
  fine-there k ks at f = go (ltb at (length file)) refl
    where
      go : (t : Bool) → ltb at (length file) ≡ t
          → (at < length file) × (fault k (bytes_at file at) ≡ 0) × Fine ks (lines_of (drop (after file at) file))
      go true t =
          let h = ltb-true _ _ t in
          let g = subst (Fine (k ∷ ks)) (lines_at file at h) f in
          (h, g.0, g.1)
      go false t = absurd (subst (Fine (k ∷ ks)) (lines_end file at (ltb-false _ _ t)) f)

  pub fine-walk : (ks : List Kind) (at : ℕ) → Fine ks (lines_of (drop at file)) → walk ks file at ≡ Ok (skipped (length ks) file at)
  unfolding walk skipped
  fine-walk [] at f = refl
  fine-walk (k ∷ ks) at f =
      let g = fine-there k ks at f in
      walk-passed file k at ks (fault-there file k at g.0 ∙ g.1) ∙ fine-walk ks (after file at) g.2

  pub passes-fine : (ks : List Kind) (at : ℕ) → Passes (walk ks file at) → Fine ks (lines_of (drop at file))
  passes-fine [] at p = tt
  passes-fine (k ∷ ks) at p =
      let t = passes-cons file k ks at p in
      let l = line-there file k at t.0 in
      subst (Fine (k ∷ ks)) (sym (lines_at file at l.0)) (l.1, passes-fine ks (after file at) t.1)

-- ---- lines that are fine

-- in two parts
pub fine-append : (ks js : List Kind) (ls ms : List (List ℕ)) → length ls ≡ length ks → Fine ks ls → Fine js ms → Fine (ks ++ js) (ls ++ ms)
fine-append [] js [] ms e f g = g
fine-append [] js (l ∷ ls) ms e f g = absurd (omega arith)
fine-append (k ∷ ks) js [] ms e f g = absurd f
fine-append (k ∷ ks) js (l ∷ ls) ms e f g = (f.0, fine-append ks js ls ms (omega arith) f.1 g)

pub fine-front : (ks js : List Kind) (ls : List (List ℕ)) → Fine (ks ++ js) ls → Fine ks ls
fine-front [] js ls f = tt
fine-front (k ∷ ks) js [] f = absurd f
fine-front (k ∷ ks) js (l ∷ ls) f = (f.0, fine-front ks js ls f.1)

pub fine-behind : (js ks : List Kind) (ls : List (List ℕ)) → Fine (js ++ ks) ls → Fine ks (drop (length js) ls)
fine-behind [] ks ls f = f
fine-behind (j ∷ js) ks [] f = absurd f
fine-behind (j ∷ js) ks (l ∷ ls) f = fine-behind js ks ls f.1

-- there are as many as there are kinds, and no more are looked at
pub fine-count : (ks : List Kind) (ls : List (List ℕ)) → Fine ks ls → length ks ≤ length ls
fine-count [] ls f = omega arith
fine-count (k ∷ ks) [] f = absurd f
fine-count (k ∷ ks) (l ∷ ls) f = omega (arith, fine-count ks ls f.1)

pub fine-first : (ks : List Kind) (ls ms : List (List ℕ)) → take (length ks) ls ≡ take (length ks) ms → Fine ks ls → Fine ks ms
fine-first [] ls ms e f = tt
fine-first (k ∷ ks) [] ms e f = absurd f
fine-first (k ∷ ks) (l ∷ ls) [] e f =
    let z : ◌≡◌ {A = ℕ} 0 1 = cc in
    absurd (omega arith)
fine-first (k ∷ ks) (l ∷ ls) (m ∷ ms) e f =
    let same : l ≡ m = cc in
    let others : take (length ks) ls ≡ take (length ks) ms = cc in
    (rw (sym same) f.0, fine-first ks ls ms others f.1)

-- so many of one kind
pub fine-taken : (k : Kind) (count : ℕ) (ls : List (List ℕ)) → Fine (replicate count k) ls
    → (length (take count ls) ≡ count) × Fine (replicate count k) (take count ls)
fine-taken k zero ls f = (refl, tt)
fine-taken k (suc count) [] f = absurd f
fine-taken k (suc count) (l ∷ ls) f = let t = fine-taken k count ls f.1 in (ap suc t.0, (f.0, t.1))
