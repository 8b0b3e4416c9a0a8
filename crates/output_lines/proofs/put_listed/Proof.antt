-- `L `, the rule.
use Rattle.output_lines.specs.Lines.{list_lines}
use borrow.Author.Rules.{rules}
use Rattle.output_lines.proofs.put_listed.Statement.{statement}
use Rattle.output_lines.proofs.put_listed.Tie as tie

returns : tie.Need-returns
unfolding list_lines
returns c = c.put_rule.ensures

pub put_listed_spec : {M : Type 1} → statement M
put_listed_spec =
    tie.close
    (tie.spec (λ c κs. search rules) (λ c. search rules) returns)
