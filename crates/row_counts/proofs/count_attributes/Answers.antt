-- The counts of the first n attributes are those at the start, with the marks of the row added; the others stay.
use Rattle.std.proofs.Common.{◌+◌, ◌≤◌, ◌++◌, List, ℕ, length, take, drop, ap, ◌∙◌, arith, length-append, length-drop}
use Rattle.std.proofs.Math.ListN.{get_or-append}
use Rattle.std.proofs.lemmas.List.{get_or-take, length-take-le}
use Rattle.attribute_set.specs.Sets.{digit}
use Rattle.nearly_always.specs.Nearly.Counting.{Adds}
use Rattle.nearly_always.proofs.Nearly.Counting.Laws.{adding-start, adding-step, adding-end}
use Rattle.row_counts.proofs.count_attributes.Goals as goal

adds-front : (n row : ℕ) (before after : List ℕ) → n ≤ length before → Adds n row (take n before) after → Adds n row before (after ++ drop n before)
adds-front n row before after h a =
    let l = length-take-le n before h in
    record {
      same_length = omega (arith, length-append after (drop n before), length-drop n before, a.same_length, l);
      at = λ j k.
          get_or-append after (drop n before) 0 j (omega (arith, a.same_length, l)) ∙ a.at j k
          ∙ ap (λ m. m + digit row j) (get_or-take n before j 0 k);
    }

pub loop-count-init : goal.loop-count-init
loop-count-init c = adding-start _ _

pub overflow_add-count : goal.overflow_add-count
overflow_add-count c =
    let a = c.args in
    let l = c.loop-count in
    let h = length-take-le a.n a.counts.now c.requires.0 in
    let j = l.count-index in
    record {
      fits = omega (arith, l.invariant.above j (omega arith), get_or-take a.n a.counts.now j 0 (omega (arith, h, c.loop-count-test.true)), c.requires.1.at j (omega (arith, h, c.loop-count-test.true)));
    }

pub loop-count-preserved : goal.loop-count-preserved
loop-count-preserved c =
    let l = c.loop-count in
    adding-step _ l.count-index l.left _ l.count-items (omega (arith, l.auto.count-items, c.loop-count-test.true)) l.invariant

pub returns : goal.returns
returns c =
    let a = c.args in
    let l = c.loop-count in
    let h = length-take-le a.n a.counts.now c.requires.0 in
    adds-front a.n a.yes a.counts.now l.count-items c.requires.0
    (adding-end a.n a.yes l.count-index l.left _ l.count-items (omega (arith, h, c.loop-count-test.false)) l.invariant)
