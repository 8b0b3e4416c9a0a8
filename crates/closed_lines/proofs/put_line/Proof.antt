-- The bytes of the line, then the line feed.
use Rattle.text.proofs.Page.Laws.{text-on}
use borrow.Author.Rules.{rules}
use Rattle.closed_lines.specs.Closed.{closed}
use Rattle.closed_lines.proofs.put_line.Statement.{statement}
use Rattle.closed_lines.proofs.put_line.Tie as tie

returns : tie.Need-returns
unfolding closed
returns c =
    text-on _ _ _ c.put_bytes-written.ensures c.put_byte.ensures

pub put_line_spec : {M : Type 1} → statement M
put_line_spec =
    tie.close
    (tie.spec
    (λ c κs. search rules)
    (λ c κs. search rules)
    (λ c. search rules)
    returns)
