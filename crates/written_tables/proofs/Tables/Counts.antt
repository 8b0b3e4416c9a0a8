-- The line of a count, written and read again: a number below 10000 is written as a count line (`count-line`) whose count it is
-- (`count-read`), and no byte of it is one of an end (`count-no-end`). So the two counts of a table pass as its third and its fourth line
-- (`objects-line`, `attributes-line`).
use Rattle.std.specs.Prelude.{◌≡◌, refl, Bool, true, false, List, [], ◌∷◌, ◌++◌, ℕ, zero, suc, ◌+◌, ◌-◌, ◌*◌, ◌/◌, ◌%◌, ◌^◌, ◌≤◌, ◌<◌, length, ltb}
use mathlib.Core.List.Memᴰ
use Rattle.std.proofs.Common.{arith, length-append}
use borrow.Author.Tests.{ltb-true, ltb-false, lt-ltb, le-leb}
use Rattle.theory.specs.Lists.{All}
use Rattle.theory.proofs.Lists.Laws.{all_nil, all_cons, all_snoc}
use Rattle.session.specs.Limits.{most_attributes, most_objects}
use Rattle.table_bytes.specs.Bytes.{is_digit}
use Rattle.line_bytes.specs.Everywhere.{everywhere}
use Rattle.line_bytes.proofs.Everywhere.Laws.{everywhere-cons}
use Rattle.table_lines.specs.Lines.{NoEnd}
use Rattle.table_counts.specs.Counts.{decimal_from, is_count, count_of}
use Rattle.table_kinds.specs.declared.Kind.TheVariants.{Objects, Attributes}
use Rattle.line_tests.specs.Tests.{count_fault}
use Rattle.line_faults.specs.Faults.{fault}
use Rattle.text.specs.Text.{digits, number_text}

-- ---- laws of bytes and of digits

-- a test that each byte passes
pub all-everywhere : (f : ℕ → Bool) (bs : List ℕ) → All (λ b. f b ≡ true) bs → everywhere f bs ≡ true
unfolding everywhere
all-everywhere f [] h = refl
all-everywhere f (b ∷ bs) h = rw (everywhere-cons f b bs, h b (Memᴰ.head refl)) (all-everywhere f bs λ c m. h c (Memᴰ.tail m))

-- one digit more behind others
decimal-last : (m : ℕ) (bs : List ℕ) (b : ℕ) → decimal_from m (bs ++ (b ∷ [])) ≡ decimal_from m bs * 10 + (b - 48)
unfolding decimal_from
decimal-last m [] b = refl
decimal-last m (a ∷ bs) b = decimal-last (m * 10 + (a - 48)) bs b

-- what holds of one digit, and of the last behind the others, holds of the digits
digits-cases : (P : List ℕ → Type 0) (k n : ℕ) → (n < 10 → P ((48 + n) ∷ [])) → (10 ≤ n → P (digits k (n / 10) ++ ((48 + n % 10) ∷ [])))
    → P (digits (suc k) n)
unfolding digits
digits-cases P k n f g = go (ltb n 10) refl
  where
    go : (b : Bool) → ltb n 10 ≡ b → P (elim b [ true ↦ (48 + n) ∷ [] | false ↦ digits k (n / 10) ++ ((48 + n % 10) ∷ []) ])
    go true e = f (ltb-true _ _ e)
    go false e = g (ltb-false _ _ e)

-- the digits of a number below 10 ^ k make that number
digits_number : (k n : ℕ) → n < 10 ^ k → decimal_from 0 (digits k n) ≡ n
unfolding decimal_from digits
digits_number zero n h = omega arith
digits_number (suc k) n h =
    digits-cases (λ bs. decimal_from 0 bs ≡ n) k n (λ l. omega arith)
    (λ l. omega (arith, decimal-last 0 (digits k (n / 10)) (48 + n % 10), digits_number k (n / 10) (omega arith)))

-- a number below 10 ^ suc j has at most suc j digits
digits-few : (k j n : ℕ) → n < 10 ^ suc j → length (digits k n) ≤ suc j
unfolding digits
digits-few zero j n h = omega arith
digits-few (suc k) zero n h = digits-cases (λ bs. length bs ≤ 1) k n (λ l. omega arith) (λ l. absurd (omega arith))
digits-few (suc k) (suc j) n h =
    digits-cases (λ bs. length bs ≤ suc (suc j)) k n (λ l. omega arith)
    (λ l. omega (arith, length-append (digits k (n / 10)) ((48 + n % 10) ∷ []), digits-few k j (n / 10) (omega arith)))

digits-some : (k n : ℕ) → 0 < length (digits (suc k) n)
digits-some k n =
    digits-cases (λ bs. 0 < length bs) k n (λ l. omega arith)
    (λ l. omega (arith, length-append (digits k (n / 10)) ((48 + n % 10) ∷ [])))

-- each byte is one of the ten digits
digits-bytes : (k n : ℕ) → All (λ b. (48 ≤ b) × (b ≤ 57)) (digits k n)
unfolding digits
digits-bytes zero n = all_nil _
digits-bytes (suc k) n =
    digits-cases (All (λ b. (48 ≤ b) × (b ≤ 57))) k n (λ l. all_cons (omega arith) (all_nil _))
    (λ l. all_snoc (digits k (n / 10)) (48 + n % 10) (digits-bytes k (n / 10)) (omega arith))

-- ---- the line of a count

pub count-no-end : (n : ℕ) → All NoEnd (number_text n)
count-no-end n b m = let t = digits-bytes 20 n b m in omega arith

module _ (n : ℕ) (h : n < 10000) where
  pub count-line : is_count (number_text n) ≡ true
  unfolding is_count
  count-line =
      let each : All (λ b. is_digit b ≡ true) (number_text n) = λ b m.
      let t = digits-bytes 20 n b m in rw (le-leb 48 b t.0) (le-leb b 57 t.1) in
      rw (lt-ltb 0 (length (number_text n)) (digits-some 19 n), le-leb (length (number_text n)) 4 (digits-few 20 3 n h))
      (all-everywhere is_digit (number_text n) each)

  pub count-read : count_of (number_text n) ≡ n
  unfolding count_of
  count-read = rw (count-line, count_of) (digits_number 20 n (omega arith))

  -- a count in range has no fault
  count-fault : (least most : ℕ) → least ≤ n → n ≤ most → count_fault least most (number_text n) ≡ 0
  count-fault least most l k = rw (count-line, count_fault, count-read, le-leb least n l, le-leb n most k)

pub objects-line : (used : ℕ) → used ≤ most_objects → fault Objects (number_text used) ≡ 0
unfolding fault
objects-line used h = count-fault used (omega arith) 0 most_objects (omega arith) h

pub attributes-line : (n : ℕ) → 0 < n → n ≤ most_attributes → fault Attributes (number_text n) ≡ 0
unfolding fault
attributes-line n some h = count-fault n (omega arith) 1 most_attributes some h
