-- What the set has and its predecessor has not.
use mathlib.Core.Path.{sym, subst}
use borrow.Author.Rules.{rules}
use lib.Bits.{and_le_l}
use Rattle.attribute_set.specs.Smallest.{Smallest}
use Rattle.attribute_set.proofs.Smallest.Laws.{smallest-none, smallest-is}
use Rattle.set_words.proofs.smallest_of.Statement.{statement}
use Rattle.set_words.proofs.smallest_of.Tie as tie

returns : tie.Need-returns-then-set-eq0
returns c = subst (λ x. Smallest x x) (sym c.if-set-eq0.true) smallest-none

returns-2 : tie.Need-returns
returns-2 c = smallest-is c.args.set c.if-set-eq0.false

pub smallest_of_spec : {M : Type 1} → statement M
smallest_of_spec = tie.close (tie.spec
    returns
    (λ c. search rules)
    (λ c. and_le_l _ _)
    returns-2)
