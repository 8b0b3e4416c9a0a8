-- What the definitions of `Sets` say of members, and the laws of inclusion, union, meet, difference and the full set.
-- Words with the same members are equal (`ext`); inclusion of words is inclusion of members by definition.
use Rattle.std.specs.Prelude.{◌≡◌, refl, ◌⊎◌, Bool, true, false, not, ℕ, zero, suc, ◌+◌, ◌-◌, ◌*◌, ◌/◌, ◌%◌, ◌^◌, ◌≤◌, ◌<◌, min, max, ltb}
use Rattle.std.proofs.Common.{sym, ap, ap₂, ◌∙◌, subst, inl, inr, ⊎_elim, mod-lt, mod-eq_of_lt, lt_of_lt_of_le, arith, shr-shr, pow_mono, pow_pos, lit<, eqb-true, eq-eqb, ne_eqb, ltb-true, ltb-false}
use Rattle.std.proofs.Math.Nat.{div-eq_of_lt, div_self}
use Rattle.std.proofs.Math.Arith.{bin_ind, digits_mod}
use Rattle.std.proofs.Math.Pow.{pow-lt}
use Rattle.std.specs.Int.Bits.{bit_and, bit_or, and_step, or_step, or_add_and}
use Rattle.std.proofs.lemmas.Nat.{and_shr, or_shr, and_le_l, and_le_r, and_mask}
use Rattle.std.proofs.lemmas.Bool.{eqb-false, not-true, not-false}
use Rattle.attribute_set.specs.Sets.{digit, In, Sub, Apart, full, without, inside, meets}

pub lt-or-le : (i j : ℕ) → (i < j) ⊎ (j ≤ i)
lt-or-le i j = go (ltb i j) refl
  where
    go : (b : Bool) → ltb i j ≡ b → (i < j) ⊎ (j ≤ i)
    go true e = inl (ltb-true i j e)
    go false e = inr (ltb-false i j e)

-- ---- digits

pub digit_lt : (x i : ℕ) → digit x i < 2
digit_lt x i = mod-lt (x / 2 ^ i) (lit< tt)

-- an attribute is a member or not
pub member-cases : (x i : ℕ) → (In i x) ⊎ (digit x i ≡ 0)
member-cases x i = go (digit x i) (digit_lt x i)
  where
    go : (d : ℕ) → d < 2 → (d ≡ 1) ⊎ (d ≡ 0)
    go zero h = inr refl
    go (suc d) h = inl (omega arith)

pub digit-half : (x i : ℕ) → digit (x / 2) i ≡ digit x (suc i)
digit-half x i = ap (λ (n : ℕ). n % 2) (shr-shr x 1 i ∙ ap (λ (k : ℕ). x / 2 ^ k) (omega arith))

digit-zero : (x : ℕ) → digit x 0 ≡ x % 2
digit-zero x = ap (λ (n : ℕ). n % 2) (omega arith)

pub digit-none : (i : ℕ) → digit 0 i ≡ 0
digit-none i = ap (λ (n : ℕ). n % 2) (div-eq_of_lt (pow_pos i))

pub digit_or : (x y i : ℕ) → digit (bit_or x y) i ≡ max (digit x i) (digit y i)
digit_or x y i =
    ap (λ (n : ℕ). n % 2) (or_shr x y i ∙ or_step (x / 2 ^ i) (y / 2 ^ i))
    ∙ digits_mod (bit_or (x / 2 ^ i / 2) (y / 2 ^ i / 2)) (omega (arith, digit_lt x i, digit_lt y i))

pub digit_and : (x y i : ℕ) → digit (bit_and x y) i ≡ min (digit x i) (digit y i)
digit_and x y i =
    ap (λ (n : ℕ). n % 2) (and_shr x y i ∙ and_step (x / 2 ^ i) (y / 2 ^ i))
    ∙ digits_mod (bit_and (x / 2 ^ i / 2) (y / 2 ^ i / 2)) (omega (arith, digit_lt x i, digit_lt y i))

-- the difference, by halves
without-half : (x y : ℕ) → without x y / 2 ≡ without (x / 2) (y / 2)
unfolding without
without-half x y = omega (arith, and_step x y, and_le_l (x / 2) (y / 2))

digits-away : (p q a b : ℕ) → q ≤ p → a < 2 → b < 2 → ((p * 2 + a) - (q * 2 + min a b)) % 2 ≡ a - b
digits-away p q zero b h ha hb = omega arith
digits-away p q (suc a) zero h ha hb = omega arith
digits-away p q (suc a) (suc b) h ha hb = omega arith

without-low : (x y : ℕ) → without x y % 2 ≡ x % 2 - y % 2
unfolding without
without-low x y =
    let e : x ≡ x / 2 * 2 + x % 2 = omega arith in
    ap (λ (k : ℕ). (x - k) % 2) (and_step x y)
    ∙ ap (λ (k : ℕ). (k - (bit_and (x / 2) (y / 2) * 2 + min (x % 2) (y % 2))) % 2) e
    ∙ digits-away (x / 2) (bit_and (x / 2) (y / 2)) (x % 2) (y % 2) (and_le_l (x / 2) (y / 2)) (mod-lt x (lit< tt)) (mod-lt y (lit< tt))

pub digit-without : (x y i : ℕ) → digit (without x y) i ≡ digit x i - digit y i
digit-without x y zero = digit-zero (without x y) ∙ without-low x y ∙ ap₂ ◌-◌ (sym (digit-zero x)) (sym (digit-zero y))
digit-without x y (suc i) =
    sym (digit-half (without x y) i) ∙ ap (λ (n : ℕ). digit n i) (without-half x y) ∙ digit-without (x / 2) (y / 2) i
    ∙ ap₂ ◌-◌ (digit-half x i) (digit-half y i)

-- words with the same members are equal
zero-ext : (y : ℕ) → ((i : ℕ) → digit zero i ≡ digit y i) → zero ≡ y
zero-ext =
    bin_ind (λ (n : ℕ). ((i : ℕ) → digit zero i ≡ digit n i) → zero ≡ n) (λ h. refl)
    (λ n ih h. omega (arith, ih (λ i. digit-half zero i ∙ h (suc i) ∙ sym (digit-half n i)), h zero))

pub ext : (x y : ℕ) → ((i : ℕ) → digit x i ≡ digit y i) → x ≡ y
ext =
    bin_ind (λ (n : ℕ). (y : ℕ) → ((i : ℕ) → digit n i ≡ digit y i) → n ≡ y) zero-ext
    (λ n ih y h. omega (arith, ih (y / 2) (λ i. digit-half n i ∙ h (suc i) ∙ sym (digit-half y i)), h zero))

-- a set that is not empty has a member
pub some-member : (x : ℕ) → (x ≡ 0 → ⊥) → (i : ℕ) × In i x
some-member = bin_ind (λ (n : ℕ). (n ≡ 0 → ⊥) → (i : ℕ) × In i n) (λ h. absurd (h refl)) more
  where
    more : (n : ℕ) → ((n / 2 ≡ 0 → ⊥) → (i : ℕ) × In i (n / 2)) → (n ≡ 0 → ⊥) → (i : ℕ) × In i n
    more n ih h = ⊎_elim (λ e. (0, e))
        (λ e. let t = ih (λ z. h (omega arith)) in (suc t.0, sym (digit-half n t.0) ∙ t.1))
        (member-cases n 0)

-- ---- inclusion

pub sub_refl : (x : ℕ) → Sub x x
sub_refl x = record { at = λ i h. h }

pub sub_trans : {x y z : ℕ} → Sub x y → Sub y z → Sub x z
sub_trans p q = record { at = λ i h. q.at i (p.at i h) }

pub digit-sub : {x y : ℕ} → Sub x y → (i : ℕ) → digit x i ≤ digit y i
digit-sub {x} {y} s i = ⊎_elim (λ h. omega (arith, s.at i h, digit_lt x i)) (λ h. omega arith) (member-cases x i)

pub sub-antisym : {x y : ℕ} → Sub x y → Sub y x → x ≡ y
sub-antisym {x} {y} p q = ext x y (λ i. omega (arith, digit-sub p i, digit-sub q i))

pub none-sub : (x : ℕ) → Sub 0 x
none-sub x = record { at = λ i h. absurd (omega (arith, digit-none i)) }

pub sub→and : {x y : ℕ} → Sub x y → bit_and x y ≡ x
sub→and {x} {y} s = ext (bit_and x y) x (λ i. omega (arith, digit_and x y i, digit-sub s i))

pub sub-le : {x y : ℕ} → Sub x y → x ≤ y
sub-le {x} {y} s = omega (arith, sub→and s, and_le_r x y)

pub and→sub : (x y : ℕ) → bit_and x y ≡ x → Sub x y
and→sub x y e = record { at = λ i h. omega (arith, digit_and x y i, ap (λ (n : ℕ). digit n i) e, digit_lt y i) }

-- the test of inclusion is right
pub inside-sub : (x y : ℕ) → inside x y ≡ true → Sub x y
unfolding inside
inside-sub x y e = and→sub x y (eqb-true _ _ e)

pub sub-inside : {x y : ℕ} → Sub x y → inside x y ≡ true
unfolding inside
sub-inside {x} {y} s = eq-eqb _ _ (sub→and s)

pub outside-sub : (x y : ℕ) → inside x y ≡ false → Sub x y → ⊥
unfolding inside
outside-sub x y e s = eqb-false _ _ e (sub→and s)

pub not-inside : {x y : ℕ} → (Sub x y → ⊥) → inside x y ≡ false
unfolding inside
not-inside {x} {y} n = ne_eqb _ _ (λ e. n (and→sub x y e))

pub sub_dec : (x y : ℕ) → Dec (Sub x y)
sub_dec x y = go (inside x y) refl
  where
    go : (b : Bool) → inside x y ≡ b → Dec (Sub x y)
    go true e = yes (inside-sub x y e)
    go false e = no (outside-sub x y e)

-- ---- union and meet

pub or_left : (x y : ℕ) → Sub x (bit_or x y)
or_left x y = record { at = λ i h. omega (arith, digit_or x y i, digit_lt y i, digit_lt x i) }

pub or_right : (x y : ℕ) → Sub y (bit_or x y)
or_right x y = record { at = λ i h. omega (arith, digit_or x y i, digit_lt y i, digit_lt x i) }

pub or-least : {x y z : ℕ} → Sub x z → Sub y z → Sub (bit_or x y) z
or-least {x} {y} {z} p q = record { at = λ i h. omega (arith, digit_or x y i, digit-sub p i, digit-sub q i, digit_lt z i) }

pub or-inside : {x y : ℕ} → Sub y x → bit_or x y ≡ x
or-inside {x} {y} s = sub-antisym (or-least (sub_refl x) s) (or_left x y)

pub le-or : (x y : ℕ) → x ≤ bit_or x y
le-or x y = omega (arith, or_add_and x y, and_le_r x y)

pub and_left : (x y : ℕ) → Sub (bit_and x y) x
and_left x y = record { at = λ i h. omega (arith, digit_and x y i, digit_lt x i) }

pub and_right : (x y : ℕ) → Sub (bit_and x y) y
and_right x y = record { at = λ i h. omega (arith, digit_and x y i, digit_lt y i) }

pub and-great : {x y z : ℕ} → Sub z x → Sub z y → Sub z (bit_and x y)
and-great {x} {y} {z} p q = record { at = λ i h. omega (arith, digit_and x y i, p.at i h, q.at i h) }

-- ---- common members

pub and-apart : (x y : ℕ) → bit_and x y ≡ 0 → Apart x y
and-apart x y e = record { at = λ i p q. omega (arith, digit_and x y i, ap (λ (n : ℕ). digit n i) e, digit-none i) }

pub apart-and : {x y : ℕ} → Apart x y → bit_and x y ≡ 0
apart-and {x} {y} h = ext (bit_and x y) 0 (λ i. ⊎_elim
    (λ p. ⊎_elim (λ q. absurd (h.at i p q)) (λ q. omega (arith, digit_and x y i, digit-none i)) (member-cases y i))
    (λ p. omega (arith, digit_and x y i, digit-none i)) (member-cases x i))

pub apart-sub : {x y u v : ℕ} → Sub u x → Sub v y → Apart x y → Apart u v
apart-sub p q h = record { at = λ i a b. h.at i (p.at i a) (q.at i b) }

-- what shares no member with x and lies inside x ∪ y lies inside y
pub strip : {x z : ℕ} (y : ℕ) → Apart z x → Sub z (bit_or x y) → Sub z y
strip {x} y d s = record {
  at = λ i h. ⊎_elim (λ k. absurd (d.at i h k)) (λ k. omega (arith, digit_or x y i, s.at i h)) (member-cases x i);
}

-- the test for a common member is right
pub meets-some : (x y : ℕ) → meets x y ≡ true → (i : ℕ) × In i x × In i y
unfolding meets
meets-some x y e =
    let t = some-member (bit_and x y) (eqb-false _ _ (not-true _ e)) in
    (t.0, (and_left x y).at t.0 t.1, (and_right x y).at t.0 t.1)

pub meets-apart : (x y : ℕ) → meets x y ≡ false → Apart x y
unfolding meets
meets-apart x y e = and-apart x y (eqb-true _ _ (not-false _ e))

pub some-meets : (x y i : ℕ) → In i x → In i y → meets x y ≡ true
some-meets x y i a b = go (meets x y) refl
  where
    go : (t : Bool) → meets x y ≡ t → t ≡ true
    go true e = refl
    go false e = absurd ((meets-apart x y e).at i a b)

pub apart-meets : {x y : ℕ} → Apart x y → meets x y ≡ false
unfolding meets
apart-meets {x} {y} h = ap not (eq-eqb _ _ (apart-and h))

-- ---- difference

pub without_sub : (x y : ℕ) → Sub (without x y) x
without_sub x y = record { at = λ i h. omega (arith, digit-without x y i, digit_lt x i) }

pub without-apart : (x y : ℕ) → Apart (without x y) y
without-apart x y = record { at = λ i h k. omega (arith, digit-without x y i, digit_lt x i) }

pub without-great : {x y z : ℕ} → Sub z x → Apart z y → Sub z (without x y)
without-great {x} {y} s d = record {
  at = λ i h. ⊎_elim (λ k. absurd (d.at i h k)) (λ k. omega (arith, digit-without x y i, s.at i h)) (member-cases y i);
}

-- what is taken away and what is left make up the whole
pub without-or : (x y : ℕ) → Sub x (bit_or y (without x y))
without-or x y = record {
  at = λ i h. ⊎_elim (λ k. (or_left y (without x y)).at i k)
      (λ k. (or_right y (without x y)).at i (omega (arith, digit-without x y i))) (member-cases y i);
}

-- ---- the full set

pub digit-high : (x i j : ℕ) → x < 2 ^ j → j ≤ i → digit x i ≡ 0
digit-high x i j h l = ap (λ (k : ℕ). k % 2) (div-eq_of_lt (lt_of_lt_of_le h (pow_mono l)))

-- a member of a set below 2 ^ n is below n
pub member-lt : (x i n : ℕ) → x < 2 ^ n → In i x → i < n
member-lt x i n hx h = ⊎_elim (λ l. l) (λ l. absurd (omega (arith, digit-high x i n hx l))) (lt-or-le i n)

pub lt-sub-full : (x n : ℕ) → x < 2 ^ n → Sub x (full n)
unfolding full
lt-sub-full x n h = and→sub x (2 ^ n - 1) (and_mask x n ∙ mod-eq_of_lt h)

pub full-lt : (n : ℕ) → full n < 2 ^ n
unfolding full
full-lt n = omega (arith, pow_pos n)

pub sub-full-lt : (x n : ℕ) → Sub x (full n) → x < 2 ^ n
unfolding full
sub-full-lt x n s = subst (λ (k : ℕ). k < 2 ^ n) (sym (and_mask x n) ∙ sub→and s) (mod-lt x (pow_pos n))

-- what a set below 2 ^ w has outside it is decided by the first w attributes
pub inside-first : (x n w : ℕ) → x < 2 ^ w → inside x (full (min n w)) ≡ inside x (full n)
inside-first x n w h =
    ⊎_elim (λ l. ap (λ (k : ℕ). inside x (full k)) (omega arith))
    (λ l.
    let few : min n w ≡ w = omega arith in
    rw few (sub-inside (lt-sub-full x w h) ∙ sym (sub-inside (lt-sub-full x n (lt_of_lt_of_le h (pow_mono l))))))
    (lt-or-le n w)

-- its members are the attributes below n
pub full-member : (n i : ℕ) → In i (full n) → i < n
full-member n i h = member-lt (full n) i n (full-lt n) h

-- and every attribute below n is one
pub member-full : (n i : ℕ) → i < n → In i (full n)
member-full n i h = (lt-sub-full (2 ^ i) n (pow-lt h)).at i (rw (div_self (pow_pos i)))

-- only what it shares with a set is taken from it, and the empty set takes nothing
pub without-and : (x y : ℕ) → without x (bit_and x y) ≡ without x y
without-and x y =
    ext _ _ (λ i. omega (arith, digit-without x (bit_and x y) i, digit_and x y i, digit-without x y i, digit_lt x i, digit_lt y i))

pub without-none : (x : ℕ) → without x 0 ≡ x
without-none x = ext _ _ (λ i. omega (arith, digit-without x 0 i, digit-none i))
