-- `N `, the premise and what is listed with it, a line feed.
use Rattle.context.specs.Objects.{objects_of}
use Rattle.nearly_lines.proofs.Lines.Laws.{lines-one}
use borrow.Author.Rules.{rules}
use Rattle.nearly_lines.proofs.put_line.Statement.{statement}
use Rattle.nearly_lines.proofs.put_line.Tie as tie

returns : tie.Need-returns
returns c =
    let set = c.nearly_always-listed in
    let a = c.args in
    let listing = set.ensures.in_range c.requires in
    rw (lines-one a.n a.percent (objects_of a.used a.rows.now) a.premise set.result listing) c.put_rule.ensures

pub put_line_spec : {M : Type 1} → statement M
put_line_spec =
    tie.close
    (tie.spec
    (λ c κs. search rules)
    (λ c κs. search rules)
    (λ c. search rules)
    returns)
