-- The third line begins behind two lines.
use mathlib.Core.Path.{◌≡◌, ap, ◌∙◌}
use mathlib.Core.List.{List}
use Prim.Native.Nat.{ℕ}
use native.Mathlib.Omega.{arith}
use borrow.Author.Rules.{rules}
use Rattle.table_lines.specs.Lines.{bytes_at, after}
use Rattle.table_lines.proofs.Lines.Laws.{after-inside}
use Rattle.table_counts.specs.Counts.{count_of}
use Rattle.table_header.specs.Header.{objects_at}
use Rattle.table_header.proofs.object_count.Statement.{statement}
use Rattle.table_header.proofs.object_count.Tie as tie

abbrev file : tie.After-next_at → List ℕ
file c = c.args.file.now

third : (c : tie.After-next_at) → c.next_at.result ≡ objects_at (file c)
third c = c.next_at.ensures ∙ ap (after (file c)) c.next_at-title_at.ensures

count-at-requires : tie.Need-count_at-requires
count-at-requires c κs = omega (arith, third c, after-inside (file c) (after (file c) 0) (after-inside (file c) 0 (omega arith)))

returns : tie.Need-returns
returns c = c.count_at.ensures ∙ ap (λ n. count_of (bytes_at (file c.before) n)) (third c.before)

pub object_count_spec : {M : Type 1} → statement M
object_count_spec = tie.close (tie.spec
    (λ c κs. search rules)
    (λ c κs. search rules)
    count-at-requires
    returns)
