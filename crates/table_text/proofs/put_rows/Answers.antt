-- The line of the first row left is written; those behind it are still to write. At first the whole rows in use are left.
use Rattle.std.proofs.Common.{◌≡◌, refl, sym, ap, ◌∙◌, List, [], ◌∷◌, ℕ, zero, suc, ◌/◌, min, length, get_or, take, drop, arith}
use Rattle.std.proofs.lemmas.List.{get_or-take}
use Rattle.std.specs.Simd.{first_chunks}
use Rattle.implication.specs.Pairs.{pairs}
use Rattle.context.specs.Objects.{object, objects_of}
use Rattle.text.specs.Page.{page, text}
use Rattle.text.proofs.Page.Laws.{text-on, text-end}
use Rattle.text.proofs.Taken.{taken, taken-none}
use Rattle.marks_text.specs.Marks.{marks_text}
use Rattle.closed_lines.specs.Closed.{closed}
use Rattle.closed_lines.proofs.Closed.Laws.{closed_none, closed-cons}
use Rattle.table_text.proofs.put_rows.Invariants.{objects_in, mark_bytes}
use Rattle.table_text.proofs.put_rows.Goals as goal

-- the objects of the first n of m chunks
chunked : (n m : ℕ) (ws : List ℕ) → objects_in (take n (first_chunks 2 m ws)) ≡ objects_of (min n m) ws
unfolding pairs
chunked zero m ws =
    let e : min 0 m ≡ 0 = omega arith in
    rw e
chunked (suc n) zero ws =
    let e : min (suc n) 0 ≡ 0 = omega arith in
    rw e
chunked (suc n) (suc m) ws =
    let e : min (suc n) (suc m) ≡ suc (min n m) = omega arith in
    rw (e, get_or-take 2 ws 0 0 (omega arith), get_or-take 2 ws 1 0 (omega arith)) (ap (λ os. object (get_or ws 0 0) (get_or ws 1 0) ∷ os) (chunked n m (drop 2 ws)))

pub loop-yes-init : goal.loop-yes-init
loop-yes-init c =
    let a = c.args in
    let it = c.into_iter-yes-iterator.result in
    let chunks = first_chunks 2 (length a.rows.now / 2) a.rows.now in
    let e : take it.n it.iter.rest.now ≡ take a.used chunks = cc in
    ap (λ cs. text (page a.out.now a.at) (mark_bytes a.n (objects_in cs))) e
    ∙ ap (λ os. text (page a.out.now a.at) (mark_bytes a.n os)) (chunked a.used (length a.rows.now / 2) a.rows.now)

pub loop-yes-preserved : goal.loop-yes-preserved
loop-yes-preserved c =
    let l = c.loop-yes in
    let it = l.yes-iterator in
    let n = c.args.n in
    let p = page l.out l.to in
    let w = c.in-Some.field-0.now in
    let left = c.next.new.self in
    let line = marks_text n (get_or w 0 0) (get_or w 1 0) in
    let e = taken it.n left.n w it.iter.rest.now left.iter.rest.now c.in-Some.ensures.steps.0 c.in-Some.ensures.steps.1 in
    text-on p (closed (line ∷ [])) (mark_bytes n (objects_in (take left.n left.iter.rest.now))) c.put_row-to.ensures refl
    ∙ ap (text p) (sym (closed-cons line _) ∙ ap (λ cs. mark_bytes n (objects_in cs)) (sym e)) ∙ l.invariant

pub returns : goal.returns
returns c =
    let l = c.loop-yes in
    let it = l.yes-iterator in
    let e = taken-none it.n it.iter.rest.now (λ h. (c.in-None.ensures.steps h).0) in
    text-end (page l.out l.to) _ (ap (λ cs. mark_bytes c.args.n (objects_in cs)) e ∙ closed_none) ∙ l.invariant
