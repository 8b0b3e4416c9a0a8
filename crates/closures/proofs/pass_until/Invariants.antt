-- A pass: what makes the pass of the implications left from where it stands makes the whole pass of the set.
use Rattle.std.proofs.Common.{ℕ, ◌-◌, ◌*◌, drop}
use Rattle.implication.specs.Closure.{implications_of}
use Rattle.implication.specs.Until.{PassUntil}
use Rattle.closures.proofs.pass_until.Given as goal

abbrev pub invariant-loop-rule : goal.invariant-loop-rule
invariant-loop-rule l =
    (r : ℕ) → PassUntil (implications_of (l.count - l.rule-index) (drop (l.rule-index * 2) l.rules)) l.s l.stop r
    → PassUntil (implications_of l.count l.rules) l.set l.stop r
