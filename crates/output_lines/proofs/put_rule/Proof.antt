-- The words in front, the premise, a space, the conclusion, the words behind.
use Rattle.text.proofs.Page.Laws.{text-on}
use borrow.Author.Rules.{rules}
use Rattle.output_lines.proofs.put_rule.Statement.{statement}
use Rattle.output_lines.proofs.put_rule.Tie as tie

returns : tie.Need-returns
returns c =
    text-on _ _ _ c.put_bytes-fronted.ensures (
    text-on _ _ _ (text-on _ _ _ c.put_set-premised.ensures (text-on _ _ _ c.put_byte-spaced.ensures c.put_set-concluded.ensures))
    c.put_bytes.ensures)

pub put_rule_spec : {M : Type 1} → statement M
put_rule_spec =
    tie.close
    (tie.spec
    (λ c κs. search rules)
    (λ c κs. search rules)
    (λ c κs. search rules)
    (λ c κs. search rules)
    (λ c κs. search rules)
    (λ c. search rules)
    returns)
