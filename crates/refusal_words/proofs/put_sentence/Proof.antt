-- The lines are the sentences.
use borrow.Author.Rules.{rules}
use Rattle.refusal_words.specs.Words.{bytes, joined}
use Rattle.refusal_words.proofs.put_sentence.Statement.{statement}
use Rattle.refusal_words.proofs.put_sentence.Tie as tie

returns : tie.Need-returns
unfolding bytes joined
returns c = c.put_line.ensures

pub put_sentence_spec : {M : Type 1} → statement M
put_sentence_spec =
    tie.close
    (tie.spec (λ c κs. search rules) (λ c. search rules) returns)
