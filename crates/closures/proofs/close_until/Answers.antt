-- A round that changes nothing is at the closure, and one that meets stop is inside it.
use Rattle.std.proofs.Common.{rules, arith, sym, ap, ◌∙◌}
use Rattle.implication.specs.Closure.{in_force, closure}
use Rattle.implication.proofs.Closure.Laws.{pass_le, closure-whole}
use Rattle.implication.proofs.Until.Laws.{pass-met, pass-both, closure-kept, close-end, close-met}
use Rattle.closures.proofs.close_until.Goals as goal

pub loop-count-init : goal.loop-count-init
loop-count-init c =
    let a = c.args in (
      search rules,
      ap (λ k. closure (in_force a.background.now a.list.now k) a.set) c.min-l.ensures
          ∙ sym (closure-whole a.background.now a.list.now a.count a.set),
    )

pub returns-then-first-stop-ne0 : goal.returns-then-first-stop-ne0
returns-then-first-stop-ne0 c =
    rw (← c.loop-count.invariant.1)
    (close-met _ (pass-both _ _ c.pass_until-first.ensures (pass-met _ _ _ c.if-first-stop-ne0.true)) c.if-first-stop-ne0.true)

pub returns-then-both-s : goal.returns-then-both-s
returns-then-both-s c =
    rw (← c.loop-count.invariant.1) (close-end _ (pass-both _ _ c.pass_until-first.ensures c.pass_until-both.ensures) c.if-both-s.true)

pub returns-then-both-stop-ne0 : goal.returns-then-both-stop-ne0
returns-then-both-stop-ne0 c =
    rw (← c.loop-count.invariant.1) (close-met _ (pass-both _ _ c.pass_until-first.ensures c.pass_until-both.ensures) c.if-both-stop-ne0.true)

pub loop-count-smaller : goal.loop-count-smaller
loop-count-smaller c =
    let a = c.args in
    let r = pass-both _ _ c.pass_until-first.ensures c.pass_until-both.ensures in
    omega (arith, r.whole c.if-both-stop-ne0.false, pass_le (in_force a.background.now a.list.now c.min-l.result) c.loop-count.s, c.loop-count.invariant.0, c.if-both-s.false)

pub loop-count-preserved : goal.loop-count-preserved
loop-count-preserved c =
    (search rules, closure-kept _ (pass-both _ _ c.pass_until-first.ensures c.pass_until-both.ensures) ∙ c.loop-count.invariant.1)
