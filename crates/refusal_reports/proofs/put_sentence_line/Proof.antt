-- The sentence, then a line feed.
use borrow.Author.Rules.{rules}
use Rattle.text.proofs.Page.Laws.{text-on}
use Rattle.refusal_reports.proofs.put_sentence_line.Statement.{statement}
use Rattle.refusal_reports.proofs.put_sentence_line.Tie as tie

returns : tie.Need-returns
returns c =
    text-on _ _ _ c.put_sentence-said.ensures c.put_byte.ensures

pub put_sentence_line_spec : {M : Type 1} → statement M
put_sentence_line_spec = tie.close (tie.spec
    (λ c κs. search rules)
    (λ c κs. search rules)
    (λ c. search rules)
    returns)
