-- Rounds leave the closure as it is, and a round that changes the set makes it grow.
use Rattle.std.proofs.Common.{◌≡◌, ◌<◌, ◌-◌, ◌^◌, ◌++◌}
use Rattle.implication.specs.Closure.{implications_of, in_force, closure}
use Rattle.closures.proofs.close_until.Given as goal

abbrev pub invariant-loop-count : goal.invariant-loop-count
invariant-loop-count l =
    (l.s < 2 ^ 64)
    × (closure (implications_of l.b l.background ++ implications_of l.l l.list) l.s ≡ closure (in_force l.background l.list l.fn.count) l.fn.set)

abbrev pub decreases-loop-count : goal.decreases-loop-count
decreases-loop-count l = 2 ^ 64 - l.s
