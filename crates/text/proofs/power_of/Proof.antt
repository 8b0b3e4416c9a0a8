-- A power of ten is taken ten times as long as ten times it is not above n.
use mathlib.Core.Path.{◌≡◌, refl, sym, ap, ◌∙◌}
use Prim.Native.Nat.{ℕ, suc, ◌-◌, ◌*◌, ◌/◌, ◌^◌, ◌≤◌}
use native.Mathlib.Omega.{arith}
use native.Mathlib.Nat.{pow-suc}
use Rattle.text.proofs.Text.Digits.Laws.{leads}
use Rattle.text.proofs.power_of.Statement.{statement}
use Rattle.text.proofs.power_of.Tie as tie

abbrev invariant-loop : tie.invariant-loop-power
invariant-loop n power₀ power = (1 ≤ power) × (power / 10 ≤ n / 10) × (k : ℕ) × (power ≡ 10 ^ k)

abbrev decreases-loop : tie.decreases-loop-power
decreases-loop n power₀ power = n - power

loop-holds : tie.Need-loop-power-init invariant-loop decreases-loop
loop-holds c = (omega arith, omega arith, 0, refl)

mul_power : tie.Need-overflow_mul-power invariant-loop decreases-loop
mul_power c = omega arith

loop-less : tie.Need-loop-power-smaller invariant-loop decreases-loop
loop-less c = omega arith

loop-again : tie.Need-loop-power-preserved invariant-loop decreases-loop
loop-again c =
    let i = c.loop-power.invariant in
    (omega arith, omega arith, suc i.2, ap (λ (x : ℕ). x * 10) i.3 ∙ sym (pow-suc 10 i.2))

returns : tie.Need-returns invariant-loop decreases-loop
returns c =
    let l = c.loop-power in
    leads c.args.n l.invariant.2 l.power (omega arith) l.invariant.3 l.invariant.1 (omega arith)

pub power_of_spec : {M : Type 1} → statement M
power_of_spec =
    tie.close (tie.spec
    invariant-loop
    decreases-loop
    loop-holds
    mul_power
    loop-less
    loop-again
    returns)
