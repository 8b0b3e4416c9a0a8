-- `Q `, the rule, ` no `, the row.
use mathlib.Core.List.{◌∷◌}
use Rattle.implication.specs.Closure.{implication}
use Rattle.text.specs.Page.{page}
use Rattle.text.proofs.Page.Laws.{text-then}
use Rattle.output_lines.specs.Lines.{rule_text}
use borrow.Author.Rules.{rules}
use Rattle.output_lines.proofs.put_no.Statement.{statement}
use Rattle.output_lines.proofs.put_no.Tie as tie

returns : tie.Need-returns
returns c =
    let a = c.args in
    text-then (page a.out.now a.at) (81 ∷ 32 ∷ rule_text a.n (implication a.premise a.conclusion)) _ _
    c.put_rule-refuted.ensures c.put_number_then.ensures

pub put_no_spec : {M : Type 1} → statement M
put_no_spec =
    tie.close
    (tie.spec
    (λ c κs. search rules)
    (λ c κs. search rules)
    (λ c. search rules)
    returns)
