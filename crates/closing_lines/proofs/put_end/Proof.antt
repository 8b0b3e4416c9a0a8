-- `END `, then the three numbers.
use Rattle.text.proofs.Page.Laws.{text-on, text-then}
use Rattle.text.specs.Text.{number_text, space}
use borrow.Author.Rules.{rules}
use Rattle.closing_lines.proofs.put_end.Statement.{statement}
use Rattle.closing_lines.proofs.put_end.Tie as tie

returns : tie.Need-returns
returns c =
    let a = c.args in
    text-on _ _ _ c.put_bytes-named.ensures (
    text-then _ (number_text a.rules) space _ c.put_number_then-listed.ensures (
    text-then _ (number_text a.rows) space _ c.put_number_then-used.ensures c.put_number_then.ensures))

pub put_end_spec : {M : Type 1} → statement M
put_end_spec =
    tie.close
    (tie.spec
    (λ c κs. search rules)
    (λ c κs. search rules)
    (λ c κs. search rules)
    (λ c κs. search rules)
    (λ c. search rules)
    returns)
