-- `E `, then the number and the place.
use Rattle.text.proofs.Page.Laws.{text-on, text-then}
use Rattle.text.specs.Text.{number_text, space}
use borrow.Author.Rules.{rules}
use Rattle.closing_lines.proofs.put_refusal.Statement.{statement}
use Rattle.closing_lines.proofs.put_refusal.Tie as tie

returns : tie.Need-returns
returns c =
    text-on _ _ _ c.put_bytes-named.ensures (
    text-then _ (number_text c.args.number) space _ c.put_number_then-numbered.ensures c.put_number_then.ensures)

pub put_refusal_spec : {M : Type 1} → statement M
put_refusal_spec =
    tie.close
    (tie.spec
    (λ c κs. search rules)
    (λ c κs. search rules)
    (λ c κs. search rules)
    (λ c. search rules)
    returns)
