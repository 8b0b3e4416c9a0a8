-- The members of a that b lacks: the code is the definition.
use mathlib.Core.Path.{refl}
use lib.Bits.{and_le_l}
use Rattle.attribute_set.specs.Sets.{without}
use Rattle.set_words.proofs.difference.Statement.{statement}
use Rattle.set_words.proofs.difference.Tie as tie
use Rattle.set_words.proofs.difference.Reads as reads
use Rattle.set_words.proofs.difference.Lts as lts

sub-result : tie.Need-overflow_sub-result
sub-result c = and_le_l _ _

returns : tie.Need-returns
unfolding without
returns c = refl

pub difference_spec : {M : Type 1} → statement M
difference_spec = tie.close (tie.spec sub-result returns)
