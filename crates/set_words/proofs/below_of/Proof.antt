-- The members below an attribute: a mask of ones, or the whole word.
use mathlib.Core.Path.{sym, ap, ◌∙◌}
use Prim.Native.Nat.{◌-◌}
use borrow.Author.Rules.{rules}
use native.Mathlib.Omega.{arith}
use native.Mathlib.Nat.{mod-eq_of_lt, lt_of_lt_of_le}
use lib.Pow.{pow_pos, pow_mono}
use lib.Bits.{bit_and, and_mask}
use Rattle.set_words.proofs.below_of.Statement.{statement}
use Rattle.set_words.proofs.below_of.Tie as tie
use Rattle.set_words.proofs.below_of.Reads as reads
use Rattle.set_words.proofs.below_of.Lts as lts
use Rattle.set_words.proofs.single.Reads as single-Reads

returns : tie.Need-returns-then-j-ge64
returns c = sym (mod-eq_of_lt (lt_of_lt_of_le c.ranges.set.fits (pow_mono c.if-j-ge64.true)))

sub-result : tie.Need-overflow_sub-result
sub-result c = omega (arith, c.single.ensures, pow_pos c.args.j)

returns-2 : tie.Need-returns
returns-2 c =
    let a = c.args in
    ap (λ b. bit_and a.set (b - 1)) c.single.ensures ∙ and_mask a.set a.j

pub below_of_spec : {M : Type 1} → statement M
below_of_spec = tie.close (tie.spec
    returns
    (λ c κs. search rules)
    sub-result
    returns-2)
