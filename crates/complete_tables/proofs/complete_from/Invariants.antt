-- The lines not yet read pass, and decide.
use Rattle.std.specs.Prelude.{◌≡◌, ◌-◌, replicate}
use Rattle.table_kinds.specs.declared.Kind.TheVariants.{Marks}
use Rattle.line_walk.specs.Walk.{walk}
use Rattle.table_walk.specs.Walk.{Passes}
use Rattle.complete_tables.specs.Complete.{complete_from}
use Rattle.complete_tables.proofs.complete_from.Given as goal

abbrev pub invariant-loop : goal.invariant-loop
invariant-loop l = record {
  passes : Passes (walk (replicate (l.layout.objects - l.counter) (Marks l.layout.attributes)) l.file l.at);
  decides : complete_from (l.layout.objects - l.counter) l.layout l.file l.at ≡ complete_from l.layout.objects l.layout l.file l.layout.marks;
}
