-- `line `, the number, `: `.
use borrow.Author.Rules.{rules}
use Rattle.text.proofs.Page.Laws.{text-on}
use Rattle.refusal_words.specs.Words.{bytes}
use Rattle.refusal_reports.proofs.put_line_number.Statement.{statement}
use Rattle.refusal_reports.proofs.put_line_number.Tie as tie

returns : tie.Need-returns
unfolding bytes
returns c =
    text-on _ _ _ c.put_bytes-named.ensures (text-on _ _ _ c.put_number-numbered.ensures c.put_bytes.ensures)

pub put_line_number_spec : {M : Type 1} → statement M
put_line_number_spec =
    tie.close
    (tie.spec
    (λ c κs. search rules)
    (λ c κs. search rules)
    (λ c κs. search rules)
    (λ c. search rules)
    returns)
