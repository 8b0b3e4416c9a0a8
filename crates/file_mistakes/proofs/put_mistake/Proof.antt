-- The lines are the phrases.
use borrow.Author.Rules.{rules}
use Rattle.refusal_words.specs.Words.{bytes, joined}
use Rattle.file_mistakes.proofs.put_mistake.Statement.{statement}
use Rattle.file_mistakes.proofs.put_mistake.Tie as tie

returns : tie.Need-returns
unfolding bytes joined
returns c = c.put_line.ensures

pub put_mistake_spec : {M : Type 1} → statement M
put_mistake_spec = tie.close (tie.spec (λ c κs. search rules) (λ c. search rules) returns)
