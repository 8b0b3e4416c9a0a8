-- The count is read from just the bytes of the line that begins at the offset.
use mathlib.Core.Path.{◌≡◌, ap, ◌∙◌}
use Prim.Native.Nat.{◌+◌, ◌-◌, ◌≤◌}
use native.Mathlib.Omega.{arith}
use lib.ListN.{length, take, drop}
use borrow.Author.Rules.{rules}
use Rattle.table_lines.specs.declared.Line.{Line}
use Rattle.table_lines.specs.Lines.{line_of}
use Rattle.table_lines.proofs.Lines.Laws.{bytes_inside}
use Rattle.table_counts.specs.Counts.{count_of}
use Rattle.table_header.proofs.count_at.Statement.{statement}
use Rattle.table_header.proofs.count_at.Tie as tie

-- the line found is the file's
size : (c : tie.After-line_at-line)
    → let a = c.args in
    c.line_at-line.result.size ≡ (line_of (drop a.at a.file.now)).size
size c = ap (λ (l : Line). l.size) c.line_at-line.ensures

inside : (c : tie.After-line_at-line) → let a = c.args in a.at + c.line_at-line.result.size ≤ length a.file.now
inside c =
    omega (arith, size c, bytes_inside c.args.file.now c.args.at c.requires)

add-end : tie.Need-overflow_add-end
add-end c = omega (arith, inside c.before)

part-count-of-end : tie.Need-slice_bounds-count_of-end
part-count-of-end c = inside c.before

returns : tie.Need-returns
returns c =
    let a = c.args in
    let s = c.line_at-line.result.size in
    let e : a.at + s - a.at ≡ (line_of (drop a.at a.file.now)).size = omega (arith, size c.before.before.before) in
    c.count_of.ensures ∙ ap (λ k. count_of (take k (drop a.at a.file.now))) e

pub count_at_spec : {M : Type 1} → statement M
count_at_spec =
    tie.close
    (tie.spec
    (λ c κs. search rules)
    add-end
    (λ c. search rules)
    (λ c. search rules)
    part-count-of-end
    (λ c κs. search rules)
    returns)
