-- The counts of 01 as computed cases. Laws of the number that digits make, along an index.
use Rattle.std.specs.Prelude.{◌≡◌, refl, true, false, ◌&&◌, List, [], ◌∷◌, ℕ, ◌+◌, ◌-◌, ◌*◌, ◌^◌, ◌≤◌, ◌<◌, ltb, leb, length, get_or, drop}
use Rattle.std.proofs.Math.Path.{sym, ap, ◌∙◌}
use Rattle.std.proofs.Math.Bool.{and-eq-true_iff}
use borrow.Author.Tests.{lt-ltb, le-leb}
use Rattle.std.proofs.Common.{add-one, pow-suc, arith, leb-true, drop_of_length-le}
use Rattle.std.proofs.Math.Nat.{pow-le-pow_right}
use Rattle.table_bytes.specs.Bytes.{is_digit}
use Rattle.line_bytes.specs.Everywhere.{everywhere}
use Rattle.line_bytes.proofs.Everywhere.Laws.{byte_at, everywhere-at}
use Rattle.table_counts.specs.Counts.{decimal_from, is_count, count_of}

-- 01's counts, computed: `7` and `0007` are 7; five digits, none and a sign are no count
counts : (count_of (55 ∷ []) ≡ 7)
    × (count_of (48 ∷ 48 ∷ 48 ∷ 55 ∷ []) ≡ 7)
    × (is_count (48 ∷ 48 ∷ 48 ∷ 48 ∷ 55 ∷ []) ≡ false)
    × (is_count [] ≡ false)
    × (is_count (43 ∷ 55 ∷ []) ≡ false)
unfolding everywhere decimal_from is_count count_of
counts = (refl, refl, refl, refl, refl)

module _ (bs : List ℕ) (i : ℕ) where
  -- no byte is left
  pub decimal-end : (n : ℕ) → length bs ≤ i → decimal_from n (drop i bs) ≡ n
  unfolding decimal_from
  decimal-end n h = ap (decimal_from n) (drop_of_length-le bs {i = i} h)

  -- the byte at i, then those behind it
  pub decimal-at : i < length bs → (n : ℕ) → decimal_from n (drop i bs) ≡ decimal_from (n * 10 + (get_or bs i 0 - 48)) (drop (i + 1) bs)
  unfolding decimal_from
  decimal-at h n = ap (decimal_from n) (byte_at bs i h)

-- a digit's byte
pub digit-range : (b : ℕ) → is_digit b ≡ true → (48 ≤ b) × (b ≤ 57)
digit-range b e = let t = (and-eq-true_iff (leb 48 b) (leb b 57)).0 e in (leb-true _ _ t.0, leb-true _ _ t.1)

-- of digits: the one at i, and those behind it
pub digits-at : (bs : List ℕ) (i : ℕ) → i < length bs → everywhere is_digit (drop i bs) ≡ true
    → (48 ≤ get_or bs i 0) × (get_or bs i 0 ≤ 57) × (everywhere is_digit (drop (i + 1) bs) ≡ true)
digits-at bs i h e =
    let t = (and-eq-true_iff _ _).0 (sym (everywhere-at bs i h is_digit) ∙ e) in
    let r = digit-range _ t.0 in
    (r.0, r.1, t.1)

-- i digits make a number below 10 ^ i
pub decimal-below : (n b i : ℕ) → n < 10 ^ i → b ≤ 57 → n * 10 + (b - 48) < 10 ^ (i + 1)
decimal-below n b i h l = rw (add-one, pow-suc) (omega arith)

pub power_small : (i : ℕ) → i < 4 → 10 ^ i ≤ 1000
power_small i h =
    let l : i ≤ 3 = omega arith in
    pow-le-pow_right (omega arith) l

-- 1 to 4 bytes are a count where all of them are digits
pub count-few : (bs : List ℕ) → 0 < length bs → length bs ≤ 4 → everywhere is_digit bs ≡ is_count bs
unfolding is_count
count-few bs some few = rw (lt-ltb _ _ some, le-leb _ _ few)

-- a count: at most 4 digits
pub count-digits : (bs : List ℕ) → is_count bs ≡ true → (length bs ≤ 4) × (everywhere is_digit bs ≡ true)
unfolding is_count
count-digits bs e =
    let t = (and-eq-true_iff (ltb 0 (length bs) && leb (length bs) 4) (everywhere is_digit bs)).0 e in
    (leb-true _ _ ((and-eq-true_iff (ltb 0 (length bs)) (leb (length bs) 4)).0 t.0).1, t.1)

pub ruleset counted = count-digits
