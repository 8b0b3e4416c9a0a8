-- The walk over the empty lines as computed cases (`cases`). How a walk goes along the lines: lines in two parts are walked one part
-- after the other (`walk-append`), a walk ends inside the file (`place_inside`), and the walk over the empty lines does not depend on
-- how many it may pass (`rest-enough`).
use Rattle.std.specs.Prelude.{◌≡◌, drop, replicate, eqb, ltb, Result, Ok, Err}
use Rattle.std.proofs.Math.Path.{refl, sym, ap}
use Rattle.std.proofs.Common.{◌∙◌, arith}
use Rattle.std.proofs.Math.Bool.{Bool, true, false}
use mathlib.Core.List.{List, [], ◌∷◌, ◌++◌}
use Prim.Native.Nat.{ℕ, zero, suc, ◌-◌, ◌≤◌, ◌<◌}
use Rattle.std.proofs.Math.ListN.{length}
use borrow.Author.Tests.{ltb-true, lt-ltb, le-ltb, eq-eqb, ne_eqb}
use Rattle.table_kinds.specs.declared.Kind.{Kind}
use Rattle.session.specs.declared.Refusal.{Refusal}
use Rattle.session.specs.Refusals.{refusal}
use Rattle.table_lines.specs.Lines.{line_of, bytes_at, after}
use Rattle.table_lines.proofs.Lines.Laws.{bytes-length, after-inside, after-moves}
use Rattle.line_walk.specs.Walk.{line_fault, walk}
use Rattle.table_walk.specs.Walk.{walk_on, rest, place_of}

-- computed: behind the last line needed, the first line that is not empty
cases : (rest 4 (13 ∷ 10 ∷ 10 ∷ []) 0 ≡ Ok 3) × (rest 4 (10 ∷ 10 ∷ 88 ∷ []) 0 ≡ Err (refusal 28 2))
unfolding rest line_of
cases = (refl, refl)

module _ (file : List ℕ) where
  pub walk-append : (ks ls : List Kind) (at : ℕ) → walk (ks ++ ls) file at ≡ walk_on (walk ks file at) ls file
  unfolding walk
  walk-append [] ls at = refl
  walk-append (k ∷ ks) ls at = go (eqb (line_fault k file at) 0) (walk-append ks ls (after file at))
    where
      step : Bool → List Kind → Result ℕ Refusal
      step b ns = elim b [ true ↦ walk ns file (after file at) | false ↦ Err (refusal (line_fault k file at) at) ]

      go : (b : Bool) → step true (ks ++ ls) ≡ walk_on (step true ks) ls file → step b (ks ++ ls) ≡ walk_on (step b ks) ls file
      go true e = e
      go false e = refl

  -- the first line, and then the others
  pub walk-first : (k : Kind) (ks : List Kind) (at : ℕ) (v : Result ℕ Refusal) → v ≡ walk (k ∷ []) file at
      → walk (k ∷ ks) file at ≡ walk_on v ks file
  walk-first k ks at v e = walk-append (k ∷ []) ks at ∙ ap (λ w. walk_on w ks file) (sym e)

  pub walk-on-append : (w : Result ℕ Refusal) (ks ls : List Kind) → walk_on w (ks ++ ls) file ≡ walk_on (walk_on w ks file) ls file
  walk-on-append (Ok at) ks ls = walk-append ks ls at
  walk-on-append (Err r) ks ls = refl

  pub walk-on-none : (w : Result ℕ Refusal) → walk_on w [] file ≡ w
  unfolding walk
  walk-on-none (Ok at) = refl
  walk-on-none (Err r) = refl

  -- one line of a kind, and then the others
  pub walk-replicate-suc : (w : Result ℕ Refusal) (k : Kind) (n : ℕ)
      → walk_on w (replicate (suc n) k) file ≡ walk_on (walk_on w (k ∷ []) file) (replicate n k) file
  walk-replicate-suc w k n = walk-on-append w (k ∷ []) (replicate n k)

  -- lines walked, and then more of a kind, whose number and kind are said in another way
  pub walk-then : (ks : List Kind) {v w : Result ℕ Refusal} {k l : Kind} {m n : ℕ} → v ≡ walk_on w (replicate m k) file → w ≡ walk ks file 0
      → k ≡ l → m ≡ n → v ≡ walk (ks ++ replicate n l) file 0
  walk-then ks {v} {w} {k} {l} {m} {n} d e f g = d ∙ rw (e, f, g) (sym (walk-append ks (replicate n l) 0))

  pub place_inside : (ks : List Kind) (at : ℕ) → at ≤ length file → place_of (walk ks file at) ≤ length file
  unfolding walk
  place_inside [] at h = h
  place_inside (k ∷ ks) at h = go (eqb (line_fault k file at) 0) (place_inside ks (after file at) (after-inside file at h))
    where
      go : (b : Bool) → place_of (walk ks file (after file at)) ≤ length file
          → place_of (elim b [ true ↦ walk ks file (after file at) | false ↦ Err (refusal (line_fault k file at) at) ]) ≤ length file
      go true e = e
      go false e = h

  -- ---- the walk over the empty lines at the end

  pub rest_end : (k at : ℕ) → length file ≤ at → rest k file at ≡ Ok at
  unfolding rest
  rest_end zero at h = refl
  rest_end (suc k) at h = rw (rest, le-ltb at (length file) h)

  module _ (k at : ℕ) (h : at < length file) where
    rest-empty : (line_of (drop at file)).size ≡ 0 → rest (suc k) file at ≡ rest k file (after file at)
    unfolding rest
    rest-empty e = rw (rest, lt-ltb at (length file) h, eq-eqb _ 0 (bytes-length file at ∙ e))

    rest-failed : ((line_of (drop at file)).size ≡ 0 → ⊥) → rest (suc k) file at ≡ Err (refusal 28 at)
    unfolding rest
    rest-failed e = rw (rest, lt-ltb at (length file) h, ne_eqb (length (bytes_at file at)) 0 (λ z. e (sym (bytes-length file at) ∙ z)))

  -- as many as the bytes that are left are enough
  pub rest-enough : (k n at : ℕ) → length file - at ≤ k → length file - at ≤ n → rest k file at ≡ rest n file at
  unfolding rest
  rest-enough zero n at h i = sym (rest_end n at (omega arith))
  rest-enough (suc k) zero at h i = rest_end (suc k) at (omega arith)
  rest-enough (suc k) (suc n) at h i =
      go (ltb at (length file)) (eqb (length (bytes_at file at)) 0) λ e.
      let m : at < after file at = after-moves file at (ltb-true _ _ e) in
      rest-enough k n (after file at) (omega arith) (omega arith)
    where
      step : Bool → Bool → ℕ → Result ℕ Refusal
      step b d m = elim b [ true ↦ elim d [ true ↦ rest m file (after file at) | false ↦ Err (refusal 28 at) ] | false ↦ Ok at ]

      go : (b d : Bool) → (b ≡ true → step true true k ≡ step true true n) → step b d k ≡ step b d n
      go true true e = e refl
      go true false e = refl
      go false d e = refl

  module _ (k at : ℕ) (h : at < length file) (f : length file - at ≤ k) where
    -- an empty line is passed, and the first other line is refused
    pub rest-on : (line_of (drop at file)).size ≡ 0 → rest k file at ≡ rest k file (after file at)
    rest-on e = rest-enough k (suc k) at f (omega arith) ∙ rest-empty k at h e

    pub rest-stop : ((line_of (drop at file)).size ≡ 0 → ⊥) → rest k file at ≡ Err (refusal 28 at)
    rest-stop e = rest-enough k (suc k) at f (omega arith) ∙ rest-failed k at h e
