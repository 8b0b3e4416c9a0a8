-- The set of all n attributes: 64 ones at the most.
use mathlib.Core.Path.{◌≡◌, ap}
use Prim.Native.Nat.{◌-◌, min}
use borrow.Author.Rules.{rules}
use native.Mathlib.Omega.{arith}
use lib.Pow.{pow_pos}
use Rattle.attribute_set.specs.Sets.{full}
use Rattle.set_words.proofs.full_set.Statement.{statement}
use Rattle.set_words.proofs.full_set.Tie as tie
use Rattle.set_words.proofs.full_set.Reads as reads
use Rattle.set_words.proofs.full_set.Lts as lts
use Rattle.set_words.proofs.single.Reads as single-Reads

returns : tie.Need-returns-then-n-ge64
unfolding full
returns c =
    let e : min c.args.n 64 ≡ 64 = omega arith in
    rw e

sub-result : tie.Need-overflow_sub-result
sub-result c = omega (arith, c.single.ensures, pow_pos c.args.n)

returns-2 : tie.Need-returns
unfolding full
returns-2 c =
    let e : min c.args.n 64 ≡ c.args.n = omega arith in
    rw e (ap (λ k. k - 1) c.single.ensures)

pub full_set_spec : {M : Type 1} → statement M
full_set_spec = tie.close (tie.spec
    returns
    (λ c κs. search rules)
    sub-result
    returns-2)
