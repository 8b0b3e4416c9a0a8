-- A row is counted for itself, and no count is above the rows.
use Rattle.std.proofs.Common.{◌+◌, ◌-◌, ◌*◌, ◌∷◌, get_or, drop, subst, sym, ap, ◌∙◌, arith}
use native.Mathlib.Nat.{sub-zero}
use Rattle.implication.proofs.Pairs.Laws.{length_pairs, pairs-at, pairs_end}
use Rattle.context.specs.Objects.{object, objects_of}
use Rattle.nearly_always.specs.Nearly.Counting.{CountedBut}
use Rattle.nearly_always.proofs.Nearly.Counting.Laws.{counted_start, counted-end, counted-small}
use Rattle.word_pairs.proofs.Chunks.{length_taken, first_word}
use Rattle.row_counts.proofs.count_rows.Goals as goal

pub loop-row-init : goal.loop-row-init
loop-row-init c =
    let a = c.args in
    rw sub-zero (counted_start a.n (objects_of a.used a.rows.now) a.premise a.counts.now c.requires.3)

pub count_row-total-requires : goal.count_row-total-requires
count_row-total-requires c =
    let a = c.args in
    let l = c.loop-row in
    let small = counted-small a.n _ (objects_of a.used a.rows.now) a.premise l.total l.counts l.invariant
    (omega (arith, length_pairs object a.used a.rows.now, c.requires.0)) in
    (omega (arith, l.auto.counts, c.requires.2), small.0, small.1)

pub loop-row-preserved : goal.loop-row-preserved
loop-row-preserved c =
    let a = c.args in
    let l = c.loop-row in
    let i = l.row-index in
    let whole = c.as_chunks.ensures.front in
    let n = length_taken _ _ whole a.used in
    let no = get_or a.rows.now (i * 2 + 1) 0 in
    let rest = objects_of (a.used - (i + 1)) (drop ((i + 1) * 2) a.rows.now) in
    c.count_row-total.ensures.counted rest _ no
    (subst (λ os. CountedBut a.n os (objects_of a.used a.rows.now) a.premise l.total l.counts)
    (pairs-at object a.rows.now a.used i (omega (arith, n, c.loop-row-test.true))
    ∙ ap (λ yes. object yes no ∷ rest) (sym (first_word _ _ whole a.used i c.loop-row-test.true)))
    l.invariant)

pub returns : goal.returns
returns c =
    let a = c.args in
    let l = c.loop-row in
    let os = objects_of a.used a.rows.now in
    let n = length_taken _ _ c.as_chunks.ensures.front a.used in
    counted-end a.n os a.premise l.total l.counts
    (subst (λ rest. CountedBut a.n rest os a.premise l.total l.counts)
    (pairs_end object (drop (l.row-index * 2) a.rows.now) a.used l.row-index (omega (arith, n, c.requires.1, c.loop-row-test.false))) l.invariant)
