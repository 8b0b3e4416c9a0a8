-- What lines that pass have: each is there and has no fault (`passes-cons`), and a part of the file from an offset on has the same
-- lines (`passes-from`). Of lines of marks that pass, the next one has a byte for each attribute (`next-line`).
use Rattle.std.specs.Prelude.{◌≡◌, refl, Bool, true, false, ℕ, suc, ◌-◌, ◌≤◌, ◌<◌, ◌+◌, length, drop, replicate, take, eqb, ltb, Result, Ok, Err}
use Rattle.std.proofs.Common.{sym, ◌∙◌, arith, ltb-true, eqb-true, ltb-false, add-zero, take_all, drop-drop}
use Rattle.std.proofs.Math.Path.{ap, subst}
use Rattle.std.proofs.Math.Bool.{and-eq-true_iff}
use mathlib.Core.List.{List, [], ◌∷◌, ◌++◌}
use Rattle.std.proofs.Math.ListN.{length-drop}
use Rattle.std.proofs.lemmas.Bool.{eqb-false}
use Rattle.table_kinds.specs.declared.Kind.{Kind}
use Rattle.table_kinds.specs.declared.Kind.TheVariants.{Marks}
use Rattle.table_lines.specs.Lines.{line_of, bytes_at, after}
use Rattle.table_lines.proofs.Lines.Laws.{bytes-length, bytes_inside, after-end}
use Rattle.line_faults.specs.Faults.{fault}
use Rattle.line_walk.specs.Walk.{line_fault, walk}
use Rattle.table_walk.specs.Walk.{walk_on, place_of, Passes}
use Rattle.line_tests.proofs.Tests.Laws.{unless-fine}
use Rattle.table_kinds.proofs.LineKinds.Laws.{absent-some}
use Rattle.line_walk.proofs.OfWalk.Laws.{fault-there, fault-missing, walk-passed, walk-failed}
use Rattle.table_walk.proofs.Walk.Laws.{walk-append}
use Rattle.session.specs.declared.Refusal.{Refusal}

module _ (file : List ℕ) where
  -- a line without a fault is there
  pub line-there : (k : Kind) (at : ℕ) → line_fault k file at ≡ 0 → (at < length file) × (fault k (bytes_at file at) ≡ 0)
  line-there k at e = go (ltb at (length file)) refl
    where
      go : (b : Bool) → ltb at (length file) ≡ b → (at < length file) × (fault k (bytes_at file at) ≡ 0)
      go true t = let h = ltb-true _ _ t in (h, sym (fault-there file k at h) ∙ e)
      go false t = absurd (absent-some k (sym (fault-missing file k at (ltb-false _ _ t)) ∙ e))

  -- the first line and the others
  pub passes-cons : (k : Kind) (ks : List Kind) (at : ℕ) → Passes (walk (k ∷ ks) file at)
      → (line_fault k file at ≡ 0) × Passes (walk ks file (after file at))
  passes-cons k ks at p = go (eqb (line_fault k file at) 0) refl
    where
      go : (b : Bool) → eqb (line_fault k file at) 0 ≡ b → (line_fault k file at ≡ 0) × Passes (walk ks file (after file at))
      go true t = let e = eqb-true _ _ t in (e, subst Passes (walk-passed file k at ks e) p)
      go false t = absurd (subst Passes (walk-failed file k at ks (eqb-false _ _ t)) p)

  -- the lines behind others pass from where those end
  pub passes_append : (ks ls : List Kind) (at : ℕ) → Passes (walk (ks ++ ls) file at)
      → Passes (walk ks file at) × Passes (walk ls file (place_of (walk ks file at)))
  passes_append ks ls at p = go (walk ks file at) (subst Passes (walk-append file ks ls at) p)
    where
      go : (w : Result ℕ Refusal) → Passes (walk_on w ls file) → Passes w × Passes (walk ls file (place_of w))
      go (Ok m) q = (tt, q)
      go (Err r) q = absurd q

  -- ---- the part of the file from an offset on

  module _ (at : ℕ) where
    pub bytes-part : (k : ℕ) → bytes_at (drop at file) k ≡ bytes_at file (at + k)
    bytes-part k = rw drop-drop

    pub after-part : (k : ℕ) → at + after (drop at file) k ≡ after file (at + k)
    after-part k = rw drop-drop (omega arith)

    passes-part : (ks : List Kind) (k : ℕ) → Passes (walk ks file (at + k)) → Passes (walk ks (drop at file) k)
    unfolding walk
    passes-part [] k p = tt
    passes-part (x ∷ ks) k p =
        let t = passes-cons x ks (at + k) p in
        let h = line-there x (at + k) t.0 in
        let e = fault-there (drop at file) x k (omega (arith, length-drop at file, h.0)) ∙ ap (fault x) (bytes-part k) ∙ h.1 in
        subst Passes (sym (walk-passed (drop at file) x k ks e))
        (passes-part ks (after (drop at file) k) (subst (λ (m : ℕ). Passes (walk ks file m)) (sym (after-part k)) t.1))

    -- every byte of the part
    pub part-whole : take (length file - at) (drop at file) ≡ drop at file
    part-whole = take_all (length file - at) (drop at file) (omega (arith, length-drop at file))

    pub passes-from : (ks : List Kind) → Passes (walk ks file at) → Passes (walk ks (take (length file - at) (drop at file)) 0)
    passes-from ks p = rw part-whole (passes-part ks 0 (rw add-zero p))

-- ---- lines of marks

-- the next of count lines of n marks, of which i are passed, where it begins at `at`: it has exactly n bytes, and the line behind it
-- begins where it does from their end on
pub record NextLine (file : List ℕ) (count n at i : ℕ) : Type 0 where
  pub fits : at + n ≤ length file
  pub bytes : take n (drop at file) ≡ bytes_at file at
  pub behind : after file (at + n) ≡ after file at
  pub passes : Passes (walk (replicate (count - (i + 1)) (Marks n)) file (after file at))

pub next-line : (file : List ℕ) (count n at i : ℕ) → i < count → Passes (walk (replicate (count - i) (Marks n)) file at)
    → NextLine file count n at i
unfolding fault
next-line file count n at i h p =
    let e : count - i ≡ suc (count - (i + 1)) = omega arith in
    let q = passes-cons file (Marks n) (replicate (count - (i + 1)) (Marks n)) at
    (subst (λ (k : ℕ). Passes (walk (replicate k (Marks n)) file at)) e p) in
    let t = line-there file (Marks n) at q.0 in
    let s : length (bytes_at file at) ≡ n =
    eqb-true _ _ ((and-eq-true_iff (eqb (length (bytes_at file at)) n) _).0 (unless-fine _ 26 t.1)).0 in
    let l : (line_of (drop at file)).size ≡ n = sym (bytes-length file at) ∙ s in
    record {
      fits = omega (arith, bytes_inside file at (omega (arith, t.0)));
      bytes = ap (λ (k : ℕ). take k (drop at file)) (sym l);
      behind = ap (λ (k : ℕ). after file (at + k)) (sym l) ∙ after-end file at;
      passes = q.1;
    }
