-- The lectic order is irreflexive, transitive and total, and a proper subset is earlier; then the laws of `raise`,
-- and of a set of one attribute.
use Rattle.std.specs.Prelude.{◌≡◌, ◌⊎◌, ℕ, zero, suc, ◌+◌, ◌-◌, ◌*◌, ◌/◌, ◌%◌, ◌^◌, ◌≤◌, ◌<◌}
use Rattle.std.proofs.Common.{sym, ap, ◌∙◌, subst, inl, inr, ⊎_elim, mod-lt, mod-eq_of_lt, one-mul, lt_of_lt_of_le, pow-suc, arith, pow-add, pow_mono, pow_pos, lit<}
use Rattle.std.proofs.Math.Nat.{div_self}
use Rattle.std.proofs.Math.Pow.{field, mod-mod-pow, high, low}
use Rattle.attribute_set.specs.Sets.{digit, In, Sub}
use Rattle.attribute_set.proofs.Sets.Laws.{lt-or-le, digit-none, digit-high, member-cases, ext}
use Rattle.attribute_set.specs.Lectic.{Before, below, raise}

pub before-irreflexive : (x : ℕ) → Before x x → ⊥
before-irreflexive x b = omega (arith, b.lacks, b.holds)

pub before-trans : {x y z : ℕ} → Before x y → Before y z → Before x z
before-trans {x} {y} {z} p q = ⊎_elim (λ l. first l) (λ l. ⊎_elim (λ m. second m) (λ m. both (omega arith)) (lt-or-le q.at p.at))
    (lt-or-le p.at q.at)
  where
    first : p.at < q.at → Before x z
    first l = record { at = p.at; lacks = p.lacks; holds = sym (q.agree p.at l) ∙ p.holds; agree = λ i h. p.agree i h ∙ q.agree i (omega arith) }

    second : q.at < p.at → Before x z
    second l = record { at = q.at; lacks = p.agree q.at l ∙ q.lacks; holds = q.holds; agree = λ i h. p.agree i (omega arith) ∙ q.agree i h }

    both : p.at ≡ q.at → Before x z
    both e = absurd (omega (arith, p.holds, q.lacks, ap (λ (k : ℕ). digit y k) e))

-- ---- the part of a set below an attribute

pub digit-below : (x i j : ℕ) → i < j → digit (below x j) i ≡ digit x i
digit-below x i j h =
    let e : j ≡ ((j - i - 1) + 1) + i = omega arith in
    ap (λ (k : ℕ). x % 2 ^ k / 2 ^ i % 2) e ∙ ap (λ (k : ℕ). k % 2) (field x ((j - i - 1) + 1) i)
    ∙ mod-mod-pow (x / 2 ^ i) (j - i - 1) 1

pub agree_at : (x y j : ℕ) → below x j ≡ below y j → (i : ℕ) → i < j → digit x i ≡ digit y i
agree_at x y j e i h = sym (digit-below x i j h) ∙ ap (λ (k : ℕ). digit k i) e ∙ digit-below y i j h

pub agree_of : (x y j : ℕ) → ((i : ℕ) → i < j → digit x i ≡ digit y i) → below x j ≡ below y j
agree_of x y j h = ext (below x j) (below y j) (λ i. ⊎_elim
    (λ l. digit-below x i j l ∙ h i l ∙ sym (digit-below y i j l))
    (λ l. digit-high (below x j) i j (mod-lt x (pow_pos j)) l ∙ sym (digit-high (below y j) i j (mod-lt y (pow_pos j)) l))
    (lt-or-le i j))

-- ---- the order is total

lt-two-pow : (n : ℕ) → n < 2 ^ n
lt-two-pow zero = lit< tt
lt-two-pow (suc n) = subst (λ (k : ℕ). suc n < k) (sym (pow-suc 2 n)) (omega (arith, lt-two-pow n))

-- two sets agree below n, or the one or the other is earlier
first-difference : (x y n : ℕ) → ((i : ℕ) → i < n → digit x i ≡ digit y i) ⊎ (Before x y ⊎ Before y x)
first-difference x y zero = inl (λ i h. absurd (omega arith))
first-difference x y (suc n) = ⊎_elim agreed (λ b. inr b) (first-difference x y n)
  where
    agreed : ((i : ℕ) → i < n → digit x i ≡ digit y i) → ((i : ℕ) → i < suc n → digit x i ≡ digit y i) ⊎ (Before x y ⊎ Before y x)
    agreed h = ⊎_elim
        (λ p. ⊎_elim (λ q. inl (more (p ∙ sym q))) (λ q. inr (inr (record { at = n; lacks = q; holds = p; agree = λ i l. sym (h i l) }))) (member-cases y n))
        (λ p. ⊎_elim (λ q. inr (inl (record { at = n; lacks = p; holds = q; agree = h }))) (λ q. inl (more (p ∙ sym q))) (member-cases y n))
        (member-cases x n)
      where
        more : digit x n ≡ digit y n → (i : ℕ) → i < suc n → digit x i ≡ digit y i
        more e i l = ⊎_elim (λ k. h i k) (λ k. let f : i ≡ n = omega arith in rw f e) (lt-or-le i n)

pub before-total : (x y : ℕ) → (x ≡ y) ⊎ (Before x y ⊎ Before y x)
before-total x y = ⊎_elim (λ h. inl (same h)) (λ b. inr b) (first-difference x y (x + y))
  where
    hx : x < 2 ^ (x + y)
    hx = lt_of_lt_of_le (lt-two-pow x) (pow_mono (omega arith))

    hy : y < 2 ^ (x + y)
    hy = lt_of_lt_of_le (lt-two-pow y) (pow_mono (omega arith))

    same : ((i : ℕ) → i < x + y → digit x i ≡ digit y i) → x ≡ y
    same h = sym (mod-eq_of_lt hx) ∙ agree_of x y (x + y) h ∙ mod-eq_of_lt hy

-- a set is never later than one that contains it
pub sub-not-before : {x y : ℕ} → Sub x y → Before y x → ⊥
sub-not-before s b = omega (arith, s.at b.at b.holds, b.lacks)

pub sub-before : {x y : ℕ} → Sub x y → (x ≡ y) ⊎ Before x y
sub-before {x} {y} s = ⊎_elim (λ e. inl e) (⊎_elim (λ b. inr b) (λ b. absurd (sub-not-before s b))) (before-total x y)

-- a proper subset is earlier
pub proper-before : {x y : ℕ} → Sub x y → (x ≡ y → ⊥) → Before x y
proper-before s n = ⊎_elim (λ e. absurd (n e)) (λ b. b) (sub-before s)

-- ---- the raised set

module _ (x j : ℕ) where
  raise-is : raise x j ≡ 1 * 2 ^ j + x % 2 ^ j
  raise-is = ap (λ (k : ℕ). k + x % 2 ^ j) (sym (one-mul (2 ^ j)))

  pub raise-low : (i : ℕ) → i < j → digit (raise x j) i ≡ digit x i
  raise-low = agree_at (raise x j) x j (ap (λ (k : ℕ). k % 2 ^ j) raise-is ∙ low 1 j (mod-lt x (pow_pos j)))

  pub raise-at : In j (raise x j)
  raise-at = ap (λ (k : ℕ). k / 2 ^ j % 2) raise-is ∙ ap (λ (k : ℕ). k % 2) (high 1 j (mod-lt x (pow_pos j)))

  pub raise-lt : raise x j < 2 ^ suc j
  raise-lt = subst (λ (k : ℕ). 2 ^ j + x % 2 ^ j < k) (sym (pow-suc 2 j)) (omega (arith, mod-lt x (pow_pos j)))

  pub raise-high : (i : ℕ) → j < i → digit (raise x j) i ≡ 0
  raise-high i h = digit-high (raise x j) i (suc j) raise-lt h

  -- past a word's last attribute it leaves the word as it is, but for what no word holds
  pub raise-past : (w : ℕ) → x < 2 ^ w → w ≤ j → raise x j % 2 ^ w ≡ x
  raise-past w hx h =
      let e : j ≡ (j - w) + w = omega arith in
      let f : raise x j ≡ 2 ^ (j - w) * 2 ^ w + x =
      ap (λ (k : ℕ). 2 ^ j + k) (mod-eq_of_lt (lt_of_lt_of_le hx (pow_mono h)))
      ∙ ap (λ (k : ℕ). k + x) (ap (λ (k : ℕ). 2 ^ k) e ∙ pow-add 2 (j - w) w) in
      ap (λ (k : ℕ). k % 2 ^ w) f ∙ low (2 ^ (j - w)) w hx

-- ---- a set of one attribute

module _ (i : ℕ) where
  pub single-raise : raise 0 i ≡ 2 ^ i
  single-raise = omega (arith, mod-eq_of_lt (pow_pos i))

  pub single-at : In i (2 ^ i)
  single-at = rw (div_self (pow_pos i))

  pub single-low : (k : ℕ) → k < i → digit (2 ^ i) k ≡ 0
  single-low k h = ap (λ (w : ℕ). digit w k) (sym single-raise) ∙ raise-low 0 i k h ∙ digit-none k

  pub single-high : (k : ℕ) → i < k → digit (2 ^ i) k ≡ 0
  single-high k h = ap (λ (w : ℕ). digit w k) (sym single-raise) ∙ raise-high 0 i k h

  pub single-only : (k : ℕ) → In k (2 ^ i) → k ≡ i
  single-only k m =
      ⊎_elim (λ l. absurd (omega (arith, single-low k l, m)))
      (λ l. ⊎_elim (λ u. absurd (omega (arith, single-high k u, m))) (λ u. omega arith) (lt-or-le i k)) (lt-or-le k i)

  -- it lies in every set with the attribute
  pub single-sub : (x : ℕ) → In i x → Sub (2 ^ i) x
  single-sub x h = record { at = λ k m. subst (λ (j : ℕ). In j x) (sym (single-only k m)) h }
