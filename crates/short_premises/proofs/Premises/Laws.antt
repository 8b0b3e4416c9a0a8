-- How the list of premises is made, attribute by attribute (`pairs-step`, `pairs_end`, `premises-step`, `premises-end`), and computed
-- (`cases`). Its members are {i} and {i, j}, for attributes i and j above i below n (`listed`, `listed-there`); these are the sets of M with
-- one or two attributes (`led-short`, `led-within`, `short-led`). Each stands before all later ones in the lectic order (`sorted`), so at
-- one place only (`places-once`). Two lists in this order with the same members are the same (`same_list`). How many they are
-- (`below_length`).
use Rattle.std.specs.Prelude.{◌≡◌, refl, ◌⊎◌, ℕ, zero, suc, ◌+◌, ◌-◌, ◌*◌, ◌^◌, ◌≤◌, ◌<◌, length, get_or}
use Rattle.std.proofs.Common.{sym, ap, ap₂, ◌∙◌, subst, inl, inr, ⊎_elim, mod-eq_of_lt, mul-suc, suc-mul, arith, length-append, lt-ltb, le-ltb}
use Rattle.std.proofs.Math.Logic.{⊎_swap}
use mathlib.Core.List.Memᴰ
use mathlib.Core.List.{List, [], ◌∷◌, ◌++◌, Memᴰ}
use Rattle.std.proofs.Math.Pow.{pow-lt}
use Rattle.theory.specs.Lists.{Pairwise}
use Rattle.theory.proofs.Lists.Laws.{all_append}
use Rattle.attribute_set.specs.Sets.{digit, In, Sub, full}
use Rattle.attribute_set.proofs.Sets.Laws.{lt-or-le, full-member, member-full, sub-antisym}
use Rattle.attribute_set.specs.Lectic.{Before, raise}
use Rattle.attribute_set.proofs.Lectic.Laws.{before-irreflexive, before-trans, raise-low, raise-at, raise-high, single-at, single-low, single-high, single-only}
use Rattle.short_premises.specs.Premises.{pairs_with, premises_below, premises, OneOrTwo}

-- computed: of three attributes, {2}, {1}, {1, 2}, {0}, {0, 2}, {0, 1}
cases : (premises 0 ≡ []) × (premises 1 ≡ 1 ∷ []) × (premises 3 ≡ 4 ∷ 2 ∷ 6 ∷ 1 ∷ 5 ∷ 3 ∷ [])
unfolding pairs_with premises_below
cases = (refl, refl, refl)

-- ---- attribute by attribute

-- the highest attribute comes first
pub pairs-step : (i j : ℕ) → i < j → pairs_with i (suc j) ≡ (2 ^ i + 2 ^ j) ∷ pairs_with i j
unfolding pairs_with
pairs-step i j h = rw (pairs_with, lt-ltb i j h)

-- none is above i
pub pairs_end : (i j : ℕ) → j ≤ suc i → pairs_with i j ≡ []
unfolding pairs_with
pairs_end i zero h = refl
pairs_end i (suc j) h = rw (pairs_with, le-ltb i j (omega arith))

pub premises-step : (n i : ℕ) → premises_below n (suc i) ≡ 2 ^ i ∷ (pairs_with i n ++ premises_below n i)
unfolding premises_below
premises-step n i = refl

pub premises-end : (n : ℕ) → premises_below n 0 ≡ []
unfolding premises_below
premises-end n = refl

-- by cases, which of two attributes is lower
by_order : {C : Type 0} (i j : ℕ) → (i < j → C) → (j < i → C) → (i ≡ j → C) → C
by_order i j f g h = ⊎_elim f (λ l. ⊎_elim g (λ u. h (omega arith)) (lt-or-le j i)) (lt-or-le i j)

-- ---- the members of {i, j}, i below j

module _ (i j : ℕ) (h : i < j) where
  both_is : 2 ^ i + 2 ^ j ≡ raise (2 ^ i) j
  both_is = omega (arith, mod-eq_of_lt (pow-lt h))

  -- below j they are those of {i}
  both-low : (k : ℕ) → k < j → digit (2 ^ i + 2 ^ j) k ≡ digit (2 ^ i) k
  both-low k l = ap (λ (w : ℕ). digit w k) both_is ∙ raise-low (2 ^ i) j k l

  both_high : (k : ℕ) → j < k → digit (2 ^ i + 2 ^ j) k ≡ 0
  both_high k l = ap (λ (w : ℕ). digit w k) both_is ∙ raise-high (2 ^ i) j k l

  both_one : In i (2 ^ i + 2 ^ j)
  both_one = both-low i h ∙ single-at i

  both-other : In j (2 ^ i + 2 ^ j)
  both-other = ap (λ (w : ℕ). digit w j) both_is ∙ raise-at (2 ^ i) j

  both-only : (k : ℕ) → In k (2 ^ i + 2 ^ j) → (k ≡ i) ⊎ (k ≡ j)
  both-only k m = by_order k j (λ l. inl (single-only i k (sym (both-low k l) ∙ m))) (λ l. absurd (omega (arith, both_high k l))) (λ e. inr e)

-- ---- the members of the list

-- s is {i}, or {i, j} with j above i and below n: i leads it
pub data Led (n i s : ℕ) : Type 0 where
  alone : s ≡ 2 ^ i → Led n i s
  joined : (j : ℕ) → i < j → j < n → s ≡ 2 ^ i + 2 ^ j → Led n i s

pairs-listed : (i k s : ℕ) → Memᴰ s (pairs_with i k) → (j : ℕ) × (i < j) × (j < k) × (s ≡ 2 ^ i + 2 ^ j)
pairs-listed i zero s m = absurd (Memᴰ.not-nil (subst (Memᴰ s) (pairs_end i 0 (omega arith)) m))
pairs-listed i (suc k) s m =
    ⊎_elim (λ l. ⊎_elim (λ e. (k, l, omega arith, e)) (λ t. lower (pairs-listed i k s t)) (some l)) (λ l. absurd (none l)) (lt-or-le i k)
  where
    some : i < k → (s ≡ 2 ^ i + 2 ^ k) ⊎ Memᴰ s (pairs_with i k)
    some l = Memᴰ.cases_cons (subst (Memᴰ s) (pairs-step i k l) m)

    none : k ≤ i → ⊥
    none l = Memᴰ.not-nil (subst (Memᴰ s) (pairs_end i (suc k) (omega arith)) m)

    lower : (j : ℕ) × (i < j) × (j < k) × (s ≡ 2 ^ i + 2 ^ j) → (j : ℕ) × (i < j) × (j < suc k) × (s ≡ 2 ^ i + 2 ^ j)
    lower r = (r.0, r.1, omega (arith, r.2), r.3)

pairs-there : (i k j : ℕ) → i < j → j < k → Memᴰ (2 ^ i + 2 ^ j) (pairs_with i k)
pairs-there i zero j h l = absurd (omega arith)
pairs-there i (suc k) j h l = rw (pairs-step i k (omega arith)) (⊎_elim
    (λ u. Memᴰ.tail (pairs-there i k j h u))
    (λ u. let e : j ≡ k = omega arith in Memᴰ.head (ap (λ (w : ℕ). 2 ^ i + 2 ^ w) e))
    (lt-or-le j k))

-- each member of the list of those below k is led by an attribute below k, and each set so led is a member
pub listed : (n k s : ℕ) → Memᴰ s (premises_below n k) → (i : ℕ) × (i < k) × Led n i s
unfolding premises_below
listed n zero s m = absurd (Memᴰ.not-nil m)
listed n (suc k) s m =
    ⊎_elim (λ e. (k, omega arith, alone e))
    (λ t. ⊎_elim pair (λ u. lower (listed n k s u)) (Memᴰ.append_cases (pairs_with k n) t))
    (Memᴰ.cases_cons m)
  where
    pair : Memᴰ s (pairs_with k n) → (i : ℕ) × (i < suc k) × Led n i s
    pair t = let r = pairs-listed k n s t in (k, omega arith, joined r.0 r.1 r.2 r.3)

    lower : (i : ℕ) × (i < k) × Led n i s → (i : ℕ) × (i < suc k) × Led n i s
    lower r = (r.0, omega (arith, r.1), r.2)

pub listed-there : (n k s i : ℕ) → i < k → Led n i s → Memᴰ s (premises_below n k)
unfolding premises_below
listed-there n zero s i h p = absurd (omega arith)
listed-there n (suc k) s i h p =
    ⊎_elim (λ l. Memᴰ.tail (Memᴰ.append_right (pairs_with k n) (listed-there n k s i l p))) (λ l. here (omega arith) p) (lt-or-le i k)
  where
    here : i ≡ k → Led n i s → Memᴰ s (2 ^ k ∷ (pairs_with k n ++ premises_below n k))
    here e (alone f) = Memᴰ.head (f ∙ ap (λ (w : ℕ). 2 ^ w) e)
    here e (joined j u l f) = Memᴰ.tail (Memᴰ.append_left (premises_below n k)
        (Memᴰ.cast (f ∙ ap (λ (w : ℕ). 2 ^ w + 2 ^ j) e) (pairs-there k n j (omega arith) l)))

-- ---- they are the sets of M with one or two attributes

pub led-short : {n i s : ℕ} → Led n i s → OneOrTwo s
led-short {i = i} (alone e) =
    rw e (record { one = i; another = i; has_one = single-at i; has_another = single-at i; no_third = λ k m. inl (single-only i k m) })
led-short {i = i} (joined j h l e) =
    rw e (record { one = i; another = j; has_one = both_one i j h; has_another = both-other i j h; no_third = both-only i j h })

pub led-within : {n i s : ℕ} → i < n → Led n i s → Sub s (full n)
led-within {n} {i} h (alone e) = rw e (record { at = λ k m. member-full n k (omega (arith, single-only i k m)) })
led-within {n} {i} h (joined j u l e) =
    rw e (record { at = λ k m. member-full n k (⊎_elim (λ f. omega arith) (λ f. omega arith) (both-only i j u k m)) })

-- a set with the members of {i} is {i}
one_same : (s i : ℕ) → In i s → ((k : ℕ) → In k s → k ≡ i) → s ≡ 2 ^ i
one_same s i p q = sub-antisym
    (record { at = λ k m. subst (λ (x : ℕ). In x (2 ^ i)) (sym (q k m)) (single-at i) })
    (record { at = λ k m. subst (λ (x : ℕ). In x s) (sym (single-only i k m)) p })

-- and one with the members of {i, j} is {i, j}
both-same : (s i j : ℕ) → i < j → In i s → In j s → ((k : ℕ) → In k s → (k ≡ i) ⊎ (k ≡ j)) → s ≡ 2 ^ i + 2 ^ j
both-same s i j h p q r = sub-antisym
    (record { at = λ k m. among (2 ^ i + 2 ^ j) k (both_one i j h) (both-other i j h) (r k m) })
    (record { at = λ k m. among s k p q (both-only i j h k m) })
  where
    among : (x k : ℕ) → In i x → In j x → (k ≡ i) ⊎ (k ≡ j) → In k x
    among x k a b = ⊎_elim (λ e. subst (λ (y : ℕ). In y x) (sym e) a) (λ e. subst (λ (y : ℕ). In y x) (sym e) b)

pub short-led : (n s : ℕ) → Sub s (full n) → OneOrTwo s → (i : ℕ) × (i < n) × Led n i s
short-led n s w o = by_order o.one o.another
    (λ l. (o.one, one_in, joined o.another l another-in (both-same s o.one o.another l o.has_one o.has_another o.no_third)))
    (λ l. (o.another, another-in, joined o.one l one_in (both-same s o.another o.one l o.has_another o.has_one swapped)))
    (λ e. (o.one, one_in, alone (one_same s o.one o.has_one (same e))))
  where
    one_in : o.one < n
    one_in = full-member n o.one (w.at o.one o.has_one)

    another-in : o.another < n
    another-in = full-member n o.another (w.at o.another o.has_another)

    swapped : (k : ℕ) → In k s → (k ≡ o.another) ⊎ (k ≡ o.one)
    swapped k m = ⊎_swap (o.no_third k m)

    same : o.one ≡ o.another → (k : ℕ) → In k s → k ≡ o.one
    same e k m = ⊎_elim (λ f. f) (λ f. f ∙ sym e) (o.no_third k m)

-- ---- the order

-- {i} is before {i, j}
one-before : (i j : ℕ) → i < j → Before (2 ^ i) (2 ^ i + 2 ^ j)
one-before i j h = record { at = j; lacks = single-high i j h; holds = both-other i j h; agree = λ k l. sym (both-low i j h k l) }

-- {i, j} is before {i, k}, k between i and j
both-before : (i j k : ℕ) → i < k → k < j → Before (2 ^ i + 2 ^ j) (2 ^ i + 2 ^ k)
both-before i j k h l =
    let u : i < j = omega arith in
    record {
      at = k;
      lacks = both-low i j u k l ∙ single-high i k h;
      holds = both-other i k h;
      agree = λ m v. both-low i j u m (omega arith) ∙ sym (both-low i k h m v);
    }

-- i is the smallest member of s
record Starts (i s : ℕ) : Type 0 where
  has : In i s
  none : (k : ℕ) → k < i → digit s k ≡ 0

one-starts : (i : ℕ) → Starts i (2 ^ i)
one-starts i = record { has = single-at i; none = single-low i }

both-starts : (i j : ℕ) → i < j → Starts i (2 ^ i + 2 ^ j)
both-starts i j h = record { has = both_one i j h; none = λ k l. both-low i j h k (omega arith) ∙ single-low i k l }

led-starts : {n i s : ℕ} → Led n i s → Starts i s
led-starts {i = i} (alone e) = rw e (one-starts i)
led-starts {i = i} (joined j h l e) = rw e (both-starts i j h)

-- the set whose smallest member is larger is before the other
starts-before : {i j a b : ℕ} → Starts i a → Starts j b → j < i → Before a b
starts-before {i} {j} p q h = record { at = j; lacks = p.none j h; holds = q.has; agree = λ k l. p.none k (omega arith) ∙ sym (q.none k l) }

-- two lists in order, all of the one before all of the other
pairwise_append : (R : ℕ → ℕ → Type 0) (s t : List ℕ) → Pairwise R s → Pairwise R t
    → ((x y : ℕ) → Memᴰ x s → Memᴰ y t → R x y) → Pairwise R (s ++ t)
pairwise_append R [] t p q h = q
pairwise_append R (x ∷ s) t p q h =
    (all_append s t p.0 (λ y m. h x y (Memᴰ.head refl) m), pairwise_append R s t p.1 q (λ a b ma mb. h a b (Memᴰ.tail ma) mb))

pairs-sorted : (i k : ℕ) → Pairwise Before (pairs_with i k)
pairs-sorted i zero = rw (pairs_end i 0 (omega arith)) tt
pairs-sorted i (suc k) = ⊎_elim (λ l. rw (pairs-step i k l) (first, pairs-sorted i k)) (λ l. rw (pairs_end i (suc k) (omega arith)) tt) (lt-or-le i k)
  where
    first : (s : ℕ) → Memᴰ s (pairs_with i k) → Before (2 ^ i + 2 ^ k) s
    first s m = let r = pairs-listed i k s m in rw r.3 (both-before i k r.0 r.1 r.2)

-- each member is before all later ones
pub sorted : (n k : ℕ) → Pairwise Before (premises_below n k)
unfolding premises_below
sorted n zero = tt
sorted n (suc k) = (
  all_append (pairs_with k n) (premises_below n k) pairs (λ s m. later s m (one-starts k)),
  pairwise_append Before (pairs_with k n) (premises_below n k) (pairs-sorted k n) (sorted n k) across,
)
  where
    pairs : (s : ℕ) → Memᴰ s (pairs_with k n) → Before (2 ^ k) s
    pairs s m = let r = pairs-listed k n s m in rw r.3 (one-before k r.0 r.1)

    later : {x : ℕ} (s : ℕ) → Memᴰ s (premises_below n k) → Starts k x → Before x s
    later s m p = let r = listed n k s m in starts-before p (led-starts r.2) r.1

    across : (x s : ℕ) → Memᴰ x (pairs_with k n) → Memᴰ s (premises_below n k) → Before x s
    across x s mx m = let r = pairs-listed k n x mx in later s m (rw r.3 (both-starts k r.0 r.1))

-- ---- lists in order

at-member : (l : List ℕ) (i : ℕ) → i < length l → Memᴰ (get_or l i 0) l
at-member [] i h = absurd (omega arith)
at-member (x ∷ l) zero h = Memᴰ.head refl
at-member (x ∷ l) (suc i) h = Memᴰ.tail (at-member l i (omega arith))

member-at : (x : ℕ) (l : List ℕ) → Memᴰ x l → (i : ℕ) × (i < length l) × (x ≡ get_or l i 0)
member-at x l (Memᴰ.head e) = (0, omega arith, e)
member-at x l (Memᴰ.tail {xs = xs} m) = let r = member-at x xs m in (suc r.0, omega (arith, r.1), r.2)

-- in order by members is in order by places
pub places-ordered : (l : List ℕ) → Pairwise Before l → (i j : ℕ) → i < j → j < length l → Before (get_or l i 0) (get_or l j 0)
places-ordered [] p i j h k = absurd (omega arith)
places-ordered (x ∷ l) p i zero h k = absurd (omega arith)
places-ordered (x ∷ l) p zero (suc j) h k = p.0 (get_or l j 0) (at-member l j (omega arith))
places-ordered (x ∷ l) p (suc i) (suc j) h k = places-ordered l p.1 i j (omega arith) (omega arith)

pub ordered-places : (l : List ℕ) → ((i j : ℕ) → i < j → j < length l → Before (get_or l i 0) (get_or l j 0)) → Pairwise Before l
ordered-places [] h = tt
ordered-places (x ∷ l) h = (
  λ y m. let r = member-at y l m in rw r.2 (h 0 (suc r.0) (omega arith) (omega (arith, r.1))),
  ordered-places l (λ i j u k. h (suc i) (suc j) (omega arith) (omega arith)),
)

-- no member stands at two places
pub places-once : (l : List ℕ) → Pairwise Before l → (i j : ℕ) → i < length l → j < length l → get_or l i 0 ≡ get_or l j 0 → i ≡ j
places-once l p i j hi hj e = by_order i j (λ u. absurd (apart i j u hj e)) (λ u. absurd (apart j i u hi (sym e))) (λ f. f)
  where
    apart : (a b : ℕ) → a < b → b < length l → get_or l a 0 ≡ get_or l b 0 → ⊥
    apart a b h k f = before-irreflexive (get_or l b 0) (subst (λ (x : ℕ). Before x (get_or l b 0)) f (places-ordered l p a b h k))

-- two lists in order with the same members are the same
pub same_list : (k l : List ℕ) → Pairwise Before k → Pairwise Before l → ((s : ℕ) → Memᴰ s k → Memᴰ s l)
    → ((s : ℕ) → Memᴰ s l → Memᴰ s k) → k ≡ l
same_list [] [] p q f g = refl
same_list [] (y ∷ l) p q f g = absurd (Memᴰ.not-nil (g y (Memᴰ.head refl)))
same_list (x ∷ k) [] p q f g = absurd (Memᴰ.not-nil (f x (Memᴰ.head refl)))
same_list (x ∷ k) (y ∷ l) p q f g = ap₂ ◌∷◌ first (same_list k l p.1 q.1 there back)
  where
    first : x ≡ y
    first = ⊎_elim (λ e. e) (λ m. ⊎_elim (λ e. sym e) (λ t. absurd (both m t)) (Memᴰ.cases_cons (g y (Memᴰ.head refl))))
        (Memᴰ.cases_cons (f x (Memᴰ.head refl)))
      where
        both : Memᴰ x l → Memᴰ y k → ⊥
        both m t = before-irreflexive x (before-trans (p.0 y t) (q.0 x m))

    there : (s : ℕ) → Memᴰ s k → Memᴰ s l
    there s m = ⊎_elim (λ e. absurd (before-irreflexive x (subst (Before x) (e ∙ sym first) (p.0 s m)))) (λ t. t)
        (Memᴰ.cases_cons (f s (Memᴰ.tail m)))

    back : (s : ℕ) → Memᴰ s l → Memᴰ s k
    back s m = ⊎_elim (λ e. absurd (before-irreflexive y (subst (Before y) (e ∙ first) (q.0 s m)))) (λ t. t)
        (Memᴰ.cases_cons (g s (Memᴰ.tail m)))

-- ---- how many they are

pairs-length : (i k : ℕ) → length (pairs_with i k) ≡ k - suc i
pairs-length i zero = ap length (pairs_end i 0 (omega arith)) ∙ omega arith
pairs-length i (suc k) = ⊎_elim
    (λ l. ap length (pairs-step i k l) ∙ omega (arith, pairs-length i k))
    (λ l. ap length (pairs_end i (suc k) (omega arith)) ∙ omega arith)
    (lt-or-le i k)

-- for each attribute i below k there are n - i
pub below_length : (n k : ℕ) → k ≤ n → length (premises_below n k) * 2 + k * k ≡ n * k * 2 + k
unfolding premises_below
below_length n zero h = omega arith
below_length n (suc k) h =
    let rest = below_length n k (omega arith) in
    let square : suc k * suc k ≡ k * k + k + suc k = mul-suc (suc k) k ∙ ap (λ (x : ℕ). x + suc k) (suc-mul k k) in
    omega (arith, length-append (pairs_with k n) (premises_below n k), pairs-length k n, mul-suc n k)
