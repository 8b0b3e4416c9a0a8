-- Each line keeps what is read so far, and none is left at the end.
use Rattle.std.proofs.Common.{◌≡◌, ap, ◌∙◌, List, ℕ, ◌+◌, ◌-◌, ◌≤◌, length, take, drop, arith}
use Rattle.std.proofs.Math.ListN.{length-drop}
use Rattle.std.proofs.Math.Seq.{length-take-le, take_all}
use Rattle.context.specs.Objects.{Object, object}
use Rattle.session.specs.Limits.{most_attributes}
use Rattle.table_lines.specs.Lines.{bytes_at}
use Rattle.table_rows.specs.Rows.{row_of}
use Rattle.table_walk.proofs.Walk.Passed.{NextLine}
use Rattle.mark_reading.proofs.Marks.Loop.{reads-start, next, reads_on, reads_end}
use Rattle.table_marks.proofs.read_rows.Goals as goal

-- the row read is the line's, which has no more bytes than a row has attributes
row-read : (part : List ℕ) (count n at i : ℕ) (o : Object) → n ≤ most_attributes → NextLine part count n at i
    → o ≡ row_of (take most_attributes (take (at + n - at) (drop at part))) → o ≡ row_of (bytes_at part at)
row-read part count n at i o few line e =
    let k : at + n - at ≡ n = omega arith in
    let whole = length-take-le n (drop at part) (omega (arith, line.fits, length-drop at part)) in
    let short : length (take n (drop at part)) ≤ most_attributes = rw whole few in
    e ∙ ap (λ j. row_of (take most_attributes (take j (drop at part)))) k
    ∙ ap row_of (take_all most_attributes (take n (drop at part)) short ∙ line.bytes)

pub loop-i-init : goal.loop-i-init
loop-i-init c = reads-start _ _ _ _ c.requires.2

pub overflow_add-end : goal.overflow_add-end
overflow_add-end c =
    let l = c.loop-i in
    omega (arith, (next _ _ _ _ l.rows l.at l.i l.invariant (omega arith)).fits)

pub slice_bounds-row_of-end : goal.slice_bounds-row_of-end
slice_bounds-row_of-end c = let l = c.loop-i in (next _ _ _ _ l.rows l.at l.i l.invariant (omega arith)).fits

pub loop-i-preserved : goal.loop-i-preserved
loop-i-preserved c =
    let a = c.args in
    let l = c.loop-i in
    let line = next _ _ _ _ l.rows l.at l.i l.invariant (omega arith) in
    rw (c.next_at-at.ensures ∙ line.behind)
    (reads_on _ _ _ _ l.rows l.at l.i l.invariant (omega arith) c.requires.0 (object c.row_of-row.result.yes c.row_of-row.result.no)
    (row-read a.part.now a.count a.n l.at l.i _ c.requires.1 line c.row_of-row.ensures))

pub returns : goal.returns
returns c = let l = c.loop-i in reads_end _ _ _ _ l.rows l.at l.i l.invariant (omega arith)
