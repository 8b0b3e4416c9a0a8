-- What x has and its predecessor has not is its smallest member (`smallest-is`).
use Rattle.std.specs.Prelude.{◌≡◌, refl, ℕ, zero, suc, ◌-◌, ◌/◌, ◌%◌, ◌^◌, ◌<◌}
use Rattle.std.proofs.Common.{sym, ap, ◌∙◌, ⊎_elim, arith, pow-suc}
use Rattle.std.proofs.Math.Arith.{bin_ind}
use Rattle.std.specs.Int.Bits.{bit_and, and_step, and_self}
use Rattle.std.proofs.lemmas.Nat.{and_le_l}
use Rattle.attribute_set.specs.Sets.{digit, In}
use Rattle.attribute_set.proofs.Sets.Laws.{member-cases, digit-half}
use Rattle.attribute_set.specs.Smallest.{Smallest}

-- the smallest member and what is left of x without what it shares with its predecessor
abbrev Found : ℕ → Type 0
Found x = (i : ℕ) × In i x × ((j : ℕ) → j < i → digit x j ≡ 0) × (x - bit_and x (x - 1) ≡ 2 ^ i)

-- an odd x has attribute 0
odd : (x : ℕ) → In 0 x → Found x
odd x e =
    let h : x % 2 ≡ 1 = omega (arith, e) in
    let half : (x - 1) / 2 ≡ x / 2 = omega (arith, h) in
    let low : (x - 1) % 2 ≡ 0 = omega (arith, h) in
    let both : bit_and (x / 2) ((x - 1) / 2) ≡ x / 2 = ap (bit_and (x / 2)) half ∙ and_self (x / 2) in
    (0, e, λ j l. absurd (omega arith), omega (arith, and_step x (x - 1), both, low, h))

-- an even one has one attribute more than its half
even : (x : ℕ) → digit x 0 ≡ 0 → (x ≡ 0 → ⊥) → Found (x / 2) → Found x
even x e n t =
    let h : x % 2 ≡ 0 = omega (arith, e) in
    let half : (x - 1) / 2 ≡ x / 2 - 1 = omega (arith, h, n) in
    let both : bit_and (x / 2) ((x - 1) / 2) ≡ bit_and (x / 2) (x / 2 - 1) = ap (bit_and (x / 2)) half in
    (suc t.0, sym (digit-half x t.0) ∙ t.1, below, omega (arith, and_step x (x - 1), both, h, t.3, pow-suc 2 t.0, and_le_l (x / 2) (x / 2 - 1)))
  where
    below : (j : ℕ) → j < suc t.0 → digit x j ≡ 0
    below zero l = e
    below (suc j) l = sym (digit-half x j) ∙ t.2 j (omega arith)

found : (x : ℕ) → (x ≡ 0 → ⊥) → Found x
found = bin_ind (λ (x : ℕ). (x ≡ 0 → ⊥) → Found x) (λ n. absurd (n refl)) (λ x ih n. ⊎_elim (odd x) (λ e. even x e n (ih (λ z. n (omega (arith, z, e))))) (member-cases x 0))

pub smallest-none : Smallest 0 0
smallest-none = record { of_none = λ e. refl; of_some = λ n. absurd (n refl) }

pub smallest-is : (x : ℕ) → (x ≡ 0 → ⊥) → Smallest x (x - bit_and x (x - 1))
smallest-is x n = record { of_none = λ e. absurd (n e); of_some = found x }
