-- The digits of a word begin at the largest power of ten that is not above it (`leads`), and go on power by power (`digit-next`, `digit-end`).
-- There are at most 20 of them (`number_short`).
use Rattle.std.specs.Prelude.{◌≡◌, refl, Bool, true, false, [], ◌∷◌, ◌++◌, ℕ, zero, suc, ◌+◌, ◌/◌, ◌%◌, ◌^◌, ◌≤◌, ◌<◌, ltb, length}
use Rattle.std.proofs.Common.{sym, ap, ◌∙◌, zero-lt-suc, div-one, mul_comm, pow-suc, arith, length-append, lt-ltb, le-ltb}
use Rattle.std.proofs.Math.Nat.{one-le-pow, div-div-eq-div-mul}
use Rattle.text.specs.Text.{digits, number_text}
use Rattle.text.specs.Text.Digits.{low, lead, Leads}

positive : (k : ℕ) → 1 ≤ 10 ^ k
positive k = one-le-pow k 10 (zero-lt-suc 9)

low_first : (k n : ℕ) → low (suc k) n ≡ (48 + n / 10 ^ k % 10) ∷ low k n
unfolding low
low_first zero n = ap (λ (x : ℕ). (48 + x % 10) ∷ []) (sym (div-one n))
low_first (suc k) n =
    let e : n / 10 / 10 ^ k ≡ n / 10 ^ suc k =
    div-div-eq-div-mul n 10 (10 ^ k) ∙ ap (λ (x : ℕ). n / x) (mul_comm 10 (10 ^ k) ∙ sym (pow-suc 10 k)) in
    ap (λ ds. ds ++ ((48 + n % 10) ∷ [])) (low_first k (n / 10))
    ∙ ap (λ (x : ℕ). (48 + x % 10) ∷ low (suc k) n) e

-- the number has suc j digits
digits_low : (k j n : ℕ) → n < 10 ^ suc k → 10 ^ j / 10 ≤ n / 10 → n < 10 ^ suc j → digits (suc k) n ≡ low (suc j) n
unfolding digits low
digits_low k zero n a b h =
    let e : n % 10 ≡ n = omega arith in
    rw (lt-ltb n 10 h, e, digits)
digits_low zero (suc j) n a b h = absurd (omega (arith, positive j))
digits_low (suc k) (suc j) n a b h =
    let l : 10 ≤ n = omega (arith, positive j) in
    rw (le-ltb n 10 l, digits)
    (ap (λ ds. ds ++ ((48 + n % 10) ∷ [])) (digits_low k j (n / 10) (omega arith) (omega arith) (omega arith)))

-- the largest power of ten not above n, or 1: the digits of a word begin there
pub leads : (n k power : ℕ) → n < 18446744073709551616 → power ≡ 10 ^ k → power / 10 ≤ n / 10 → n / 10 < power → Leads n power
unfolding lead
leads n k power w e b h = record {
  size = suc k;
  first = e;
  whole = digits_low 19 k n (omega arith) (rw e at b) (omega (arith, e));
}

-- the digit at a power, then those after it
pub digit-next : (n k power : ℕ) → power ≡ lead k → 0 < power
    → (j : ℕ) × (power / 10 ≡ lead j) × (low k n ≡ (48 + n / power % 10) ∷ low j n)
unfolding lead
digit-next n zero power e h = absurd (omega arith)
digit-next n (suc zero) power e h = (0, rw e, rw e (low_first 0 n))
digit-next n (suc (suc k)) power e h =
    let p : power ≡ 10 ^ suc k = e in
    let q : power / 10 ≡ 10 ^ k = omega arith in
    (suc k, q, rw e (low_first (suc k) n))

-- no digit is left
pub digit-end : (n k power : ℕ) → power ≡ lead k → power ≤ 0 → low k n ≡ []
unfolding low lead
digit-end n zero power e h = refl
digit-end n (suc k) power e h = absurd (omega (arith, positive k))

-- a word has at most 20 digits
digits-most : (k n : ℕ) → length (digits k n) ≤ k
unfolding digits
digits-most zero n = omega arith
digits-most (suc k) n = go (ltb n 10) (digits-most k (n / 10))
  where
    go : (t : Bool) → length (digits k (n / 10)) ≤ k
        → length {A = ℕ} (elim t [ true ↦ (48 + n) ∷ [] | false ↦ digits k (n / 10) ++ ((48 + n % 10) ∷ []) ]) ≤ suc k
    go true h = omega arith
    go false h = omega (arith, length-append (digits k (n / 10)) ((48 + n % 10) ∷ []))

pub number_short : (n : ℕ) → length (number_text n) ≤ 20
number_short n = digits-most 20 n
