-- What is walked from `at` over the lines not yet read is what is walked over all of them.
use Rattle.std.specs.Prelude.{◌≡◌, ◌-◌, replicate, Ok}
use Rattle.table_walk.specs.Walk.{walk_on}
use Rattle.table_walk.proofs.walk_lines.Given as goal

abbrev pub invariant-loop : goal.invariant-loop
invariant-loop l =
    walk_on (Ok l.at) (replicate (l.count - l.counter) l.kind) l.file ≡ walk_on l.fn.walked (replicate l.count l.kind) l.file
