-- What is left of the search from j downwards is the whole of it.
use Rattle.std.proofs.Common.{◌≡◌, min}
use Rattle.implication.specs.Closure.{in_force}
use Rattle.next_set.specs.Next.{next_below, next}
use Rattle.closed_sets.proofs.next_of.Given as goal

abbrev pub invariant-loop-j : goal.invariant-loop-j
invariant-loop-j l = let rs = in_force l.background l.list l.count in next_below rs l.set l.j ≡ next rs (min l.n 64) l.set
