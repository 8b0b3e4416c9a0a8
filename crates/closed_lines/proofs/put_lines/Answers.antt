-- The line at the offset is written; those behind it are still to write. No line is left where none is asked for, or no byte is left.
use Rattle.std.proofs.Common.{◌≡◌, refl, sym, ap, ◌∙◌, List, [], ◌∷◌, ℕ, ◌+◌, ◌-◌, take, drop, arith}
use Rattle.text.specs.Page.{Page, page, text}
use Rattle.text.proofs.Page.Laws.{text-on, text-end}
use Rattle.table_lines.specs.Lines.{bytes_at, after}
use Rattle.table_lines.specs.Pieces.{lines_of}
use Rattle.closed_lines.specs.Closed.{closed}
use Rattle.closed_lines.proofs.Closed.Laws.{closed_none, closed-cons, first-at, first-none, first-end, line-found}
use Rattle.closed_lines.proofs.put_lines.Goals as goal

-- no line is left to write
none-left : (p q : Page) (ls : List (List ℕ)) → ls ≡ [] → text p (closed ls) ≡ q → p ≡ q
none-left p q ls e h = text-end p _ (ap closed e ∙ closed_none) ∙ h

pub returns-then-bytes-from : goal.returns-then-bytes-from
returns-then-bytes-from c =
    let l = c.loop in
    none-left _ _ _ (first-end c.args.bytes.now c.args.count l.counter l.from c.if-bytes-from.true) l.invariant.1

pub overflow_add-end : goal.overflow_add-end
overflow_add-end c =
    let l = c.loop in
    let f = line-found c.args.bytes.now l.from c.line_at-line.result c.line_at-line.ensures l.invariant.0 in
    omega arith

pub slice_bounds-put_line-end : goal.slice_bounds-put_line-end
slice_bounds-put_line-end c =
    let l = c.loop in
    let f = line-found c.args.bytes.now l.from c.line_at-line.result c.line_at-line.ensures l.invariant.0 in
    omega arith

pub overflow_add-from : goal.overflow_add-from
overflow_add-from c =
    let l = c.loop in
    let f = line-found c.args.bytes.now l.from c.line_at-line.result c.line_at-line.ensures l.invariant.0 in
    omega arith

pub loop-preserved : goal.loop-preserved
loop-preserved c =
    let l = c.loop in
    let bs = c.args.bytes.now in
    let p = page l.out l.to in
    let size = c.line_at-line.result.size in
    let f = line-found bs l.from c.line_at-line.result c.line_at-line.ensures l.invariant.0 in
    let here = bytes_at bs l.from in
    let rest = take (c.args.count - (l.counter + 1)) (lines_of (drop (after bs l.from) bs)) in
    let k : l.from + size - l.from ≡ size = omega arith in
    let e : take (l.from + size - l.from) (drop l.from bs) ≡ here = ap (λ (m : ℕ). take m (drop l.from bs)) k ∙ f.line in
    let lines = first-at bs c.args.count l.counter l.from c.loop-test.true c.if-bytes-from.false in
    rw f.next (
      f.inside,
      text-on p (closed (here ∷ [])) (closed rest) (c.put_line-to.ensures ∙ ap (λ b. text p (closed (b ∷ []))) e) refl
          ∙ ap (text p) (sym (ap closed lines ∙ closed-cons here rest)) ∙ l.invariant.1,
    )

pub returns : goal.returns
returns c =
    let l = c.loop in
    none-left _ _ _ (first-none c.args.bytes.now c.args.count l.counter l.from c.loop-test.false) l.invariant.1
