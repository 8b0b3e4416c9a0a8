-- The first five lines, the names, then the lines of marks, of which the row words have all.
use mathlib.Core.Path.{◌≡◌, sym, ap, ◌∙◌}
use mathlib.Core.List.{◌++◌}
use Prim.Native.Nat.{ℕ, ◌+◌}
use native.Mathlib.Omega.{arith}
use borrow.Author.Rules.{rules}
use Rattle.context.specs.Objects.{objects_of, whole}
use Rattle.text.specs.Page.{page, text}
use Rattle.text.proofs.Page.Laws.{text-on, text-then}
use Rattle.closed_lines.specs.Closed.{closed, first_lines}
use Rattle.table_text.specs.Table.{header_lines, mark_lines}
use Rattle.table_text.proofs.Table.Laws.{text-parts}
use Rattle.row_checks.proofs.Rows.Laws.{rows_fit}
use Rattle.table_writer.proofs.put_table.Statement.{statement}
use Rattle.table_writer.proofs.put_table.Tie as tie

add-put-lines : tie.Need-overflow_add-used
add-put-lines c =
    let a = c.args in
    omega (arith, rows_fit a.n a.used a.rows.now c.requires)

returns : tie.Need-returns
returns c =
    let a = c.args in
    let ws = a.rows.now in
    let p = page a.out.now 0 in
    let fits = rows_fit a.n a.used ws c.requires in
    let all : whole a.used ws ≡ a.used = omega (arith, fits) in
    let header = closed (header_lines a.used a.n) in
    let names = closed (first_lines (a.used + a.n) a.names.now) in
    let marks = closed (mark_lines a.n (objects_of (whole a.used ws) ws)) in
    text-then p header names marks (text-on p header names c.put_header-headed.ensures c.put_lines-named.ensures) c.put_rows.ensures
    ∙ ap (λ (k : ℕ). text p (header ++ (names ++ closed (mark_lines a.n (objects_of k ws))))) all
    ∙ ap (text p) (sym (text-parts a.n a.used ws a.names.now))

pub put_table_spec : {M : Type 1} → statement M
put_table_spec =
    tie.close
    (tie.spec
    (λ c κs. search rules)
    add-put-lines
    (λ c κs. search rules)
    (λ c κs. search rules)
    (λ c. search rules)
    returns)
