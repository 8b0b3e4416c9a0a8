-- What is skipped from `at` over the lines not yet passed is what is skipped over all of them.
use Rattle.std.specs.Prelude.{◌≡◌, ◌-◌}
use Rattle.table_lines.specs.Lines.{skipped}
use Rattle.name_spans.proofs.skip.Given as goal

abbrev pub invariant-loop : goal.invariant-loop
invariant-loop l = skipped (l.count - l.counter) l.file l.at ≡ skipped l.count l.file l.start
