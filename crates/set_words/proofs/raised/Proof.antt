-- Attribute j with the members below it, as far as a word holds them.
use mathlib.Core.Path.{sym, ap, ◌∙◌}
use Prim.Native.Nat.{suc, ◌+◌, ◌*◌, ◌%◌, ◌^◌}
use borrow.Author.Rules.{rules}
use native.Mathlib.Omega.{arith}
use native.Mathlib.Nat.{one-mul, mod-lt, mod-eq_of_lt, lt_of_lt_of_le}
use lib.Pow.{pow_pos, pow_mono}
use lib.Bits.{bit_or, or_shifted}
use Rattle.attribute_set.proofs.Lectic.Laws.{raise-lt, raise-past}
use Rattle.set_words.proofs.raised.Statement.{statement}
use Rattle.set_words.proofs.raised.Tie as tie
use Rattle.set_words.proofs.raised.Reads as reads
use Rattle.set_words.proofs.raised.Lts as lts
use Rattle.set_words.proofs.below_of.Reads as below-of-reads
use Rattle.set_words.proofs.single.Reads as single-Reads

returns : tie.Need-returns-then-j-ge64
returns c = sym (raise-past c.args.set c.args.j 64 c.ranges.set.fits c.if-j-ge64.true)

returns-2 : tie.Need-returns
returns-2 c =
    let a = c.args in
    ap (λ b. bit_or b c.below_of.result) (c.single.ensures ∙ sym (one-mul _))
    ∙ ap (bit_or (1 * 2 ^ a.j)) c.below_of.ensures
    ∙ or_shifted 1 a.j (a.set % 2 ^ a.j) (mod-lt a.set (pow_pos a.j))
    ∙ ap (λ k. k + a.set % 2 ^ a.j) (one-mul (2 ^ a.j))
    ∙ sym (mod-eq_of_lt (lt_of_lt_of_le (raise-lt a.set a.j) (pow_mono {i = suc a.j} {j = 64} (omega arith))))

pub raised_spec : {M : Type 1} → statement M
raised_spec = tie.close (tie.spec
    returns
    (λ c κs. search rules)
    (λ c κs. search rules)
    returns-2)
