-- A missing line is refused (`absent-some`).
use Rattle.std.specs.Prelude.{◌≡◌}
use Rattle.std.proofs.Common.{arith}
use Rattle.table_kinds.specs.declared.Kind.{Kind}
use Rattle.table_kinds.specs.declared.Kind.TheVariants.{Letter, Title, Objects, Attributes, Blank, Name, Marks}
use Rattle.table_kinds.specs.Kinds.{absent}

pub absent-some : (k : Kind) → absent k ≡ 0 → ⊥
absent-some Letter e = omega arith
absent-some Title e = omega arith
absent-some Objects e = omega arith
absent-some Attributes e = omega arith
absent-some Blank e = omega arith
absent-some Name e = omega arith
absent-some (Marks n) e = omega arith
