-- The marks, the phrase, the mistake.
use borrow.Author.Rules.{rules}
use Rattle.text.proofs.Page.Laws.{text-on}
use Rattle.expected_phrases.proofs.put_expectation.Statement.{statement}
use Rattle.expected_phrases.proofs.put_expectation.Tie as tie

returns : tie.Need-returns
returns c =
    text-on _ _ _ c.put_marks-counted.ensures (text-on _ _ _ c.put_expected-expected.ensures c.put_looks.ensures)

pub put_expectation_spec : {M : Type 1} → statement M
put_expectation_spec =
    tie.close
    (tie.spec
    (λ c κs. search rules)
    (λ c κs. search rules)
    (λ c κs. search rules)
    (λ c. search rules)
    returns)
