-- The byte is written where the buffer has room for it, and dropped elsewhere.
use borrow.Author.Rules.{rules}
use Rattle.text.proofs.Page.Laws.{put-inside, put-past}
use Rattle.text.proofs.put_byte.Statement.{statement}
use Rattle.text.proofs.put_byte.Tie as tie

returns : tie.Need-returns-then-at-out
returns c = let a = c.args in put-inside a.out.now a.at a.byte (search rules)

returns-2 : tie.Need-returns
returns-2 c = let a = c.args in put-past a.out.now a.at a.byte (search rules)

pub put_byte_spec : {M : Type 1} → statement M
put_byte_spec = tie.close (tie.spec
    (λ c. search rules)
    (λ c. search rules)
    (λ c. search rules)
    returns
    returns-2)
