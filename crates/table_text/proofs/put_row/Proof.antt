-- The marks, then the line feed.
use Rattle.text.proofs.Page.Laws.{text-on}
use borrow.Author.Rules.{rules}
use Rattle.closed_lines.specs.Closed.{closed}
use Rattle.table_text.proofs.put_row.Statement.{statement}
use Rattle.table_text.proofs.put_row.Tie as tie

returns : tie.Need-returns
unfolding closed
returns c =
    text-on _ _ _ c.put_marks-marked.ensures c.put_byte.ensures

pub put_row_spec : {M : Type 1} → statement M
put_row_spec =
    tie.close
    (tie.spec
    (λ c κs. search rules)
    (λ c κs. search rules)
    (λ c. search rules)
    returns)
