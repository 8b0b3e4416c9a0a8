-- The number, then the byte.
use Rattle.text.proofs.Page.Laws.{text-on}
use borrow.Author.Rules.{rules}
use Rattle.closing_lines.proofs.put_number_then.Statement.{statement}
use Rattle.closing_lines.proofs.put_number_then.Tie as tie

returns : tie.Need-returns
returns c =
    text-on _ _ _ c.put_number-numbered.ensures c.put_byte.ensures

pub put_number_then_spec : {M : Type 1} → statement M
put_number_then_spec =
    tie.close
    (tie.spec
    (λ c κs. search rules)
    (λ c κs. search rules)
    (λ c. search rules)
    returns)
