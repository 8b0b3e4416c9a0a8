-- A line is missing, refused or passed just as the walk over it says.
use Rattle.std.specs.Prelude.{◌≡◌, ℕ, ◌+◌, ◌-◌, ◌<◌, ◌≤◌, List, [], length, take, drop, zero, suc, Result, Ok, Err, MatchResult}
use Rattle.std.proofs.Common.{refl, sym, ap, ◌∙◌, arith, rules}
use Rattle.std.proofs.lemmas.Result.{err_from_is_err_and}
use Rattle.table_lines.specs.declared.Line.{Line}
use Rattle.table_lines.specs.Lines.{line_of, after}
use Rattle.table_lines.proofs.Lines.Laws.{bytes_inside, after-inside}
use Rattle.std.specs.Result.{IsErrAnd}
use Rattle.session.specs.declared.Refusal.{Refusal}
use Rattle.session.specs.Refusals.{refusal}
use Rattle.table_kinds.specs.declared.Kind.{Kind}
use Rattle.line_tests.specs.Tests.{outcome}
use Rattle.line_faults.specs.Faults.{fault}
use Rattle.line_walk.specs.Walk.{line_fault, walk}
use Rattle.table_kinds.proofs.LineKinds.Laws.{absent-some}
use Rattle.line_walk.proofs.OfWalk.Laws.{fault-there, fault-missing, walk-passed, walk-failed}
use Rattle.line_walk.proofs.walk_line.Goals as goal

module _ (file : List ℕ) (at : ℕ) (line : Line) (e : line ≡ line_of (drop at file)) (h : at < length file) where
  -- the line found lies inside the file, and so does the start of the next
  inside : at + line.size ≤ length file
  inside = omega (arith, ap (λ (l : Line). l.size) e, bytes_inside file at (omega arith))

  stepped : at + line.step ≡ after file at
  stepped = ap (λ (l : Line). at + l.step) e

  next_inside : at + line.step ≤ length file
  next_inside = omega (arith, stepped, after-inside file at (omega arith))

  module _ (k : Kind) where
    -- its fault is the walk's
    found : fault k (take (at + line.size - at) (drop at file)) ≡ line_fault k file at
    found =
        let s : at + line.size - at ≡ (line_of (drop at file)).size = omega (arith, ap (λ (l : Line). l.size) e) in
        ap (λ n. fault k (take n (drop at file))) s ∙ sym (fault-there file k at h)

-- an Ok is no Err
impossible : {T E : Type 0} {x : T} {y : E} → ◌≡◌ {A = Result T E} (Ok x) (Err y) → ⊥
impossible e = cc

-- a line whose test ends with an Err is refused with its fault
refused : (n at : ℕ) (q : Result (Unit {0}) ℕ) (r : Result (Unit {0}) Refusal) (P : ℕ → Refusal → Type 0) (y : Refusal) → q ≡ outcome n
    → MatchResult q (λ x. r ≡ Ok x) (λ e. IsErrAnd r (P e)) → ((e : ℕ) (z : Refusal) → P e z → z ≡ refusal e at) → r ≡ Err y
    → (y ≡ refusal n at) × (n ≡ 0 → ⊥)
refused zero at (Ok x) r P y e m f g = absurd (impossible (sym m ∙ g))
refused zero at (Err k) r P y e m f g = absurd (impossible (sym e))
refused (suc n) at (Ok x) r P y e m f g = absurd (impossible e)
refused (suc n) at (Err k) r P y e m f g =
    let p = err_from_is_err_and r m in
    let w : p.0 ≡ refusal k at = f k p.0 p.2 in
    let s : k ≡ suc n = cc in
    let t : y ≡ p.0 = cc in
    (t ∙ w ∙ ap (λ l. refusal l at) s, λ z. omega arith)

-- and one whose test ends with an Ok has none
passed : (n at : ℕ) (q : Result (Unit {0}) ℕ) (r : Result (Unit {0}) Refusal) (P : ℕ → Refusal → Type 0) (x : Unit {0}) → q ≡ outcome n
    → MatchResult q (λ x. r ≡ Ok x) (λ e. IsErrAnd r (P e)) → r ≡ Ok x → n ≡ 0
passed zero at q r P y e m g = refl
passed (suc n) at (Ok x) r P y e m g = absurd (impossible e)
passed (suc n) at (Err k) r P y e m g =
    let p = err_from_is_err_and r m in
    absurd (impossible (sym g ∙ p.1))

pub returns-then-file-at : goal.returns-then-file-at
returns-then-file-at c =
    let a = c.args in
    let e = fault-missing a.file.now a.kind a.at (omega arith) in
    ap Err (c.refuse.ensures ∙ ap (λ n. refusal n a.at) (c.absent_of.ensures ∙ sym e))
    ∙ sym (walk-failed a.file.now a.kind a.at [] (λ z. absent-some a.kind (sym e ∙ z)))

pub overflow_add-end : goal.overflow_add-end
overflow_add-end c = omega (arith, inside c.args.file.now c.args.at _ c.line_at-line.ensures (omega arith))

pub slice_bounds-fault_of-end : goal.slice_bounds-fault_of-end
slice_bounds-fault_of-end c = inside c.args.file.now c.args.at _ c.line_at-line.ensures (omega arith)

pub returns-in_err-map_err : goal.returns-in_err-map_err
returns-in_err-map_err c =
    let a = c.args in
    let p = err_from_is_err_and c.from_residual.result c.from_residual.ensures.1 in
    let f = found a.file.now a.at _ c.line_at-line.ensures (omega arith) a.kind in
    let h = refused _ a.at _ _ _ _ c.fault_of.ensures c.map_err.ensures.cases (λ e z q. search rules) c.in_err-map_err.was in
    rw (p.1, p.2)
    (ap Err (h.0 ∙ ap (λ n. refusal n a.at) f) ∙ sym (walk-failed a.file.now a.kind a.at [] (λ z. h.1 (f ∙ z))))

pub overflow_add-result : goal.overflow_add-result
overflow_add-result c = omega (arith, next_inside c.args.file.now c.args.at _ c.line_at-line.ensures (omega arith))

pub returns : goal.returns
unfolding walk
returns c =
    let a = c.args in
    let h = passed _ a.at _ _ _ _ c.fault_of.ensures c.map_err.ensures.cases c.in_ok-map_err.was in
    ap Ok (stepped a.file.now a.at _ c.line_at-line.ensures (omega arith))
    ∙ sym (walk-passed a.file.now a.kind a.at [] (sym (found a.file.now a.at _ c.line_at-line.ensures (omega arith) a.kind) ∙ h))
