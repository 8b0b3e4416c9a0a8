-- The line of the first rule left is written; those behind it are still to write. At first the whole rules of the slice are left.
use Rattle.std.proofs.Common.{◌≡◌, refl, sym, ap, ◌∙◌, List, [], ◌∷◌, ℕ, zero, suc, ◌/◌, min, length, get_or, take, drop, arith}
use Rattle.std.proofs.lemmas.List.{get_or-take}
use Rattle.std.specs.Simd.{first_chunks}
use Rattle.implication.specs.Pairs.{pairs}
use Rattle.implication.specs.Closure.{implication, implications_of}
use Rattle.text.specs.Page.{page, text}
use Rattle.text.proofs.Page.Laws.{text-on, text-end}
use Rattle.text.proofs.Taken.{taken, taken-none}
use Rattle.output_lines.specs.Lines.{list_lines}
use Rattle.output_lines.proofs.Lines.Laws.{lines-first, lines_none}
use Rattle.output_lines.proofs.put_list.Invariants.{rules_of}
use Rattle.output_lines.proofs.put_list.Goals as goal

-- the rules of the first n of m chunks
chunked : (n m : ℕ) (ws : List ℕ) → rules_of (take n (first_chunks 2 m ws)) ≡ implications_of (min n m) ws
unfolding pairs
chunked zero m ws =
    let e : min 0 m ≡ 0 = omega arith in
    rw e
chunked (suc n) zero ws =
    let e : min (suc n) 0 ≡ 0 = omega arith in
    rw e
chunked (suc n) (suc m) ws =
    let e : min (suc n) (suc m) ≡ suc (min n m) = omega arith in
    rw (e, get_or-take 2 ws 0 0 (omega arith), get_or-take 2 ws 1 0 (omega arith)) (ap (λ rs. implication (get_or ws 0 0) (get_or ws 1 0) ∷ rs) (chunked n m (drop 2 ws)))

pub loop-premise-init : goal.loop-premise-init
loop-premise-init c =
    let a = c.args in
    let it = c.into_iter-premise-iterator.result in
    let chunks = first_chunks 2 (length a.list.now / 2) a.list.now in
    let e : take it.n it.iter.rest.now ≡ take a.count chunks = cc in
    ap (λ cs. text (page a.out.now a.at) (list_lines a.n (rules_of cs))) e
    ∙ ap (λ rs. text (page a.out.now a.at) (list_lines a.n rs)) (chunked a.count (length a.list.now / 2) a.list.now)

pub loop-premise-preserved : goal.loop-premise-preserved
loop-premise-preserved c =
    let l = c.loop-premise in
    let it = l.premise-iterator in
    let n = c.args.n in
    let p = page l.out l.to in
    let w = c.in-Some.field-0.now in
    let left = c.next.new.self in
    let rule = implication (get_or w 0 0) (get_or w 1 0) in
    let rest = rules_of (take left.n left.iter.rest.now) in
    let e = taken it.n left.n w it.iter.rest.now left.iter.rest.now c.in-Some.ensures.steps.0 c.in-Some.ensures.steps.1 in
    text-on p (list_lines n (rule ∷ [])) (list_lines n rest) c.put_listed-to.ensures refl
    ∙ ap (text p) (lines-first n rule rest ∙ ap (λ cs. list_lines n (rules_of cs)) (sym e)) ∙ l.invariant

pub returns : goal.returns
returns c =
    let l = c.loop-premise in
    let it = l.premise-iterator in
    let e = taken-none it.n it.iter.rest.now (λ h. (c.in-None.ensures.steps h).0) in
    text-end (page l.out l.to) _ (lines_none c.args.n _ (ap rules_of e)) ∙ l.invariant
