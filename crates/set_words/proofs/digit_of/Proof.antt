-- The digit of an attribute: past the word it is 0.
use mathlib.Core.Path.{sym}
use borrow.Author.Rules.{rules}
use lib.Bits.{and_mask}
use Rattle.attribute_set.proofs.Sets.Laws.{digit-high}
use Rattle.set_words.proofs.digit_of.Statement.{statement}
use Rattle.set_words.proofs.digit_of.Tie as tie
use Rattle.set_words.proofs.digit_of.Reads as reads
use Rattle.set_words.proofs.digit_of.Lts as lts

returns : tie.Need-returns-then-j-ge64
returns c = sym (digit-high c.args.set c.args.j 64 c.ranges.set.fits c.if-j-ge64.true)

returns-2 : tie.Need-returns
returns-2 c = and_mask _ 1

pub digit_of_spec : {M : Type 1} → statement M
digit_of_spec = tie.close (tie.spec returns (λ c. search rules) returns-2)
