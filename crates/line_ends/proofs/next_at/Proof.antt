-- The next line begins a step behind; the step does not lead past the end of the file.
use mathlib.Core.Path.{ap}
use Prim.Native.Nat.{◌+◌}
use native.Mathlib.Omega.{arith}
use borrow.Author.Rules.{rules}
use lib.ListN.{drop, length-drop}
use Rattle.table_lines.specs.declared.Line.{Line}
use Rattle.table_lines.proofs.Lines.Laws.{step-inside}
use Rattle.line_ends.proofs.next_at.Statement.{statement}
use Rattle.line_ends.proofs.next_at.Tie as tie

add-result : tie.Need-overflow_add-result
add-result c =
    let a = c.args in
    let rest = drop a.at a.file.now in
    omega (arith, ap (λ (l : Line). l.step) c.line_at-line.ensures, step-inside rest, length-drop a.at a.file.now)

returns : tie.Need-returns
returns c = ap (λ (l : Line). c.args.at + l.step) c.line_at-line.ensures

pub next_at_spec : {M : Type 1} → statement M
next_at_spec = tie.close (tie.spec (λ c κs. search rules) add-result returns)
