-- Out of range nothing is written; in range the lines of all premises are.
use mathlib.Core.Path.{refl, sym, ◌∙◌}
use mathlib.Core.Bool.{true≢false}
use mathlib.Core.List.{[]}
use lib.ListN.{length}
use Rattle.text.proofs.Page.Laws.{text-end}
use Rattle.nearly_always.specs.Nearly.{InRange}
use borrow.Author.Rules.{rules}
use Rattle.nearly_lines.proofs.put_lines.Statement.{statement}
use Rattle.nearly_lines.proofs.put_lines.Tie as tie

returns : tie.Need-returns-then-not-in_range
returns c = record {
  in_range = λ h. absurd (true≢false (sym (c.in_range.ensures.seen h) ∙ c.if-not-in_range.true));
  out_of_range = λ h. text-end _ [] refl;
}

-- the numbers are in range
tested : (c : tie.Else-not-in_range) → let a = c.args in InRange a.n a.used (length a.rows.now) a.percent
tested c = c.in_range.ensures.so (c.if-not-in_range.false)

put-each-requires : tie.Need-put_each-requires
put-each-requires c κs = tested c.before

returns-2 : tie.Need-returns
returns-2 c =
    record { in_range = λ h. c.put_each.ensures; out_of_range = λ h. absurd (h (tested c.before.before.before.before)) }

pub put_lines_spec : {M : Type 1} → statement M
put_lines_spec =
    tie.close
    (tie.spec
    (λ c κs. search rules)
    returns
    put-each-requires
    (λ c. search rules)
    returns-2)
