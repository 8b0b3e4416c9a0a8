-- The digits passed, and those of the number that is left, are all of them.
use mathlib.Core.Path.{◌≡◌, refl, ap}
use mathlib.Core.List.{[], ◌∷◌}
use Prim.Native.Nat.{ℕ, zero, suc, ◌+◌, ◌/◌, ◌%◌, ◌^◌, ◌≤◌, ◌<◌}
use native.Mathlib.Omega.{arith}
use lib.ListN.{length, length-append}
use borrow.Author.Tests.{lt-ltb, le-ltb}
use Rattle.text.specs.Text.{digits, number_text}
use Rattle.text.proofs.size_of_number.Statement.{statement}
use Rattle.text.proofs.size_of_number.Tie as tie

-- a number of one digit, and one of more
one : (k n : ℕ) → n < 10 → length (digits (suc k) n) ≡ 1
unfolding digits
one k n h = rw (lt-ltb n 10 h, digits)

more : (k n : ℕ) → 10 ≤ n → length (digits (suc k) n) ≡ length (digits k (n / 10)) + 1
unfolding digits
more k n h = rw (le-ltb n 10 h, digits) (length-append (digits k (n / 10)) ((48 + n % 10) ∷ []))

-- of a number of more than one digit one digit less is left
next : (k n : ℕ) → n < 10 ^ suc k → 10 ≤ n → (j : ℕ) × (k ≡ suc j) × (n / 10 < 10 ^ suc j)
next zero n h l = absurd (omega arith)
next (suc j) n h l = (j, refl, omega arith)

-- with those passed, the digits of what is left are all of them, and one more: its own first digit is counted already
abbrev invariant-loop : tie.invariant-loop-left
invariant-loop n left₀ size₀ left size =
    (1 ≤ size) × (k : ℕ) × (size + k ≡ 20) × (left < 10 ^ suc k) × (size + length (digits (suc k) left) ≡ length (number_text n) + 1)

abbrev decreases-loop : tie.decreases-loop-left
decreases-loop n left₀ size₀ left size = left

loop-holds : tie.Need-loop-left-init invariant-loop decreases-loop
loop-holds c = (omega arith, 19, refl, omega arith, omega arith)

add-size : tie.Need-overflow_add-size invariant-loop decreases-loop
add-size c = omega arith

loop-less : tie.Need-loop-left-smaller invariant-loop decreases-loop
loop-less c = omega arith

loop-again : tie.Need-loop-left-preserved invariant-loop decreases-loop
loop-again c =
    let l = c.loop-left in
    let i = l.invariant in
    let t = next i.1 l.left i.3 (omega arith) in
    let e = ap (λ (m : ℕ). length (digits m (l.left / 10))) t.1 in
    (omega arith, t.0, omega (arith, t.1), t.2, omega (arith, more i.1 l.left (omega arith), e))

returns : tie.Need-returns invariant-loop decreases-loop
returns c =
    let l = c.loop-left in
    let i = l.invariant in
    omega (arith, one i.1 l.left (omega arith))

pub size_of_number_spec : {M : Type 1} → statement M
size_of_number_spec =
    tie.close (tie.spec
    invariant-loop
    decreases-loop
    loop-holds
    add-size
    loop-less
    loop-again
    returns)
