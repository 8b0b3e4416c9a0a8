-- The place that the search finds is one of the count just if a pair is strange.
use Rattle.std.proofs.Common.{arith, ap, sym, ◌∙◌, ltb}
use Rattle.implication.proofs.Pairs.Laws.{length_pairs}
use Rattle.implication.specs.Pairs.{pairs}
use Rattle.context.specs.Places.{anywhere, lowest}
use Rattle.machine.specs.Checks.{strange}
use Rattle.word_pairs.proofs.Lowest.{first-whole}
use Rattle.outside_check.proofs.strange_among.Goals as goal

pub returns : goal.returns
unfolding anywhere
returns c =
    let a = c.args in
    let e = first-whole (λ b. b) (strange a.m) a.words.now a.count _ c.type_inv.words
    (λ x y h k b e. e) _ c.first_that.ensures (omega arith) in
    ap (λ k. ltb k a.count) e ∙ ap (ltb (lowest (λ b. b) (pairs (strange a.m) a.count a.words.now))) (sym (length_pairs (strange a.m) a.count a.words.now))
