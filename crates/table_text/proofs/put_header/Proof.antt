-- `B` and the empty title, the two counts, then the empty line.
use Rattle.text.proofs.Page.Laws.{text-on, text-then}
use Rattle.text.specs.Text.{number_text, newline}
use borrow.Author.Rules.{rules}
use Rattle.closed_lines.specs.Closed.{closed}
use Rattle.table_text.proofs.put_header.Statement.{statement}
use Rattle.table_text.proofs.put_header.Tie as tie

returns : tie.Need-returns
unfolding closed
returns c =
    let a = c.args in
    text-on _ _ _ c.put_bytes-titled.ensures (
    text-then _ (number_text a.objects) newline _ c.put_number_then-counted.ensures (
    text-then _ (number_text a.attributes) newline _ c.put_number_then-both.ensures c.put_byte.ensures))

pub put_header_spec : {M : Type 1} → statement M
put_header_spec =
    tie.close
    (tie.spec
    (λ c κs. search rules)
    (λ c κs. search rules)
    (λ c κs. search rules)
    (λ c κs. search rules)
    (λ c. search rules)
    returns)
