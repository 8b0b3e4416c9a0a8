-- One line more, and the last one.
use Rattle.std.specs.Prelude.{◌≡◌, suc, ◌+◌, ◌-◌}
use Rattle.std.proofs.Common.{ap, ◌∙◌, arith}
use Rattle.table_lines.specs.Lines.{skipped}
use Rattle.name_spans.proofs.skip.Goals as goal

pub loop-preserved : goal.loop-preserved
unfolding skipped
loop-preserved c =
    let a = c.args in
    let l = c.loop in
    let n = a.count - (l.counter + 1) in
    let e : suc n ≡ a.count - l.counter = omega arith in
    ap (skipped n a.file.now) c.next_at-at.ensures ∙ ap (λ m. skipped m a.file.now l.at) e ∙ l.invariant

pub returns : goal.returns
unfolding skipped
returns c =
    let l = c.loop in
    let e : 0 ≡ c.args.count - l.counter = omega arith in
    ap (λ m. skipped m c.args.file.now l.at) e ∙ l.invariant
