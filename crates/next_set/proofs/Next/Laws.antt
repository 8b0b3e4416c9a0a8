-- The next closed set is closed, inside M, later, with nothing between, and exists for every subset of M other than M
-- (`next-is`): the search downwards takes the candidate of the largest attribute that fits, and a closed set after x
-- contains the candidate at the smallest attribute in which they differ.
use Rattle.std.specs.Prelude.{◌≡◌, ◌⊎◌, Bool, ◌&&◌, List, ℕ, zero, suc, ◌<◌}
use Rattle.std.proofs.Math.Path.{refl}
use Rattle.std.proofs.Common.{sym, ◌∙◌, subst, inl, inr, ⊎_elim, le_refl, lt_of_lt_of_le, arith, pow_mono}
use Rattle.std.proofs.Math.Bool.{true, false, true≢false}
use borrow.Author.Tests.{eqb-true, eq-eqb}
use Rattle.theory.specs.Lists.{All}
use Rattle.theory.specs.Implications.{Implication, Closed, Over}
use Rattle.attribute_set.specs.Sets.{digit, In, Sub, full}
use Rattle.attribute_set.proofs.Sets.Laws.{lt-or-le, digit-sub, lt-sub-full, sub-full-lt, full-member, member-lt}
use Rattle.attribute_set.specs.Lectic.{Before, below, raise}
use Rattle.attribute_set.proofs.Lectic.Laws.{agree_at, agree_of, proper-before, sub-before, raise-low, raise-at, raise-high, raise-lt}
use Rattle.attribute_set.proofs.Words.{words}
use Rattle.implication.proofs.Closure.Laws.{closure-least, closure-inside, full-closed}
use Rattle.next_set.specs.Next.{candidate, fits, next_below, next, IsNext}

both_true : (a b : Bool) → (a && b) ≡ true → (a ≡ true) × (b ≡ true)
both_true true b e = (refl, e)
both_true false b e = absurd (true≢false (sym e))

-- ---- a step of the search

-- the candidate at j is one to take: x lacks j, and the candidate gains nothing below j
pub record Fit (rs : List (Implication ℕ)) (x j : ℕ) : Type 0 where
  pub lacks : digit x j ≡ 0
  pub same : below (candidate rs x j) j ≡ below x j

module _ (rs : List (Implication ℕ)) (x j : ℕ) where
  -- the test says just that
  fits-fit : fits rs x j ≡ true → Fit rs x j
  unfolding fits
  fits-fit e = let t = both_true _ _ e in record { lacks = eqb-true _ _ t.0; same = eqb-true _ _ t.1 }

  fit-fits : Fit rs x j → fits rs x j ≡ true
  unfolding fits
  fit-fits f = rw (eq-eqb _ _ f.lacks, eq-eqb _ _ f.same)

  next-cases : (P : ℕ → Type 0) → (Fit rs x j → P (candidate rs x j)) → ((Fit rs x j → ⊥) → P (next_below rs x j)) → P (next_below rs x (suc j))
  unfolding next_below
  next-cases P found passed = go (fits rs x j) refl
    where
      go : (b : Bool) → fits rs x j ≡ b → P (elim b [ true ↦ candidate rs x j | false ↦ next_below rs x j ])
      go true e = found (fits-fit e)
      go false e = passed (λ f. true≢false (sym (fit-fits f) ∙ e))

  pub next-found : Fit rs x j → next_below rs x (suc j) ≡ candidate rs x j
  next-found f = next-cases (λ r. r ≡ candidate rs x j) (λ g. refl) (λ h. absurd (h f))

  pub next-passed : (Fit rs x j → ⊥) → next_below rs x (suc j) ≡ next_below rs x j
  next-passed h = next-cases (λ r. r ≡ next_below rs x j) (λ g. absurd (h g)) (λ g. refl)

-- ---- what the search finds

-- r is the candidate of the largest attribute below n that fits
record Largest (rs : List (Implication ℕ)) (x n r : ℕ) : Type 0 where
  pub at : ℕ
  pub small : at < n
  pub fit : Fit rs x at
  pub is : r ≡ candidate rs x at
  pub largest : (k : ℕ) → at < k → k < n → Fit rs x k → ⊥

module _ (rs : List (Implication ℕ)) (x : ℕ) where
  searched : (n : ℕ) → Largest rs x n (next_below rs x n) ⊎ ((k : ℕ) → k < n → Fit rs x k → ⊥)
  searched zero = inr (λ k h f. absurd (omega arith))
  searched (suc n) = next-cases rs x n (λ r. Largest rs x (suc n) r ⊎ ((k : ℕ) → k < suc n → Fit rs x k → ⊥))
      (λ f. inl (record { at = n; small = le_refl (suc n); fit = f; is = refl; largest = λ k a b g. absurd (omega arith) }))
      (λ p. ⊎_elim
      (λ l. inl (record { at = l.at; small = omega arith; fit = l.fit; is = l.is; largest = λ k a b g. last p (λ m. l.largest k a m g) b g }))
      (λ h. inr (λ k b g. last p (λ m. h k m g) b g)) (searched n))
    where
      last : (Fit rs x n → ⊥) → {k : ℕ} → (k < n → ⊥) → k < suc n → Fit rs x k → ⊥
      last p {k} h b g = ⊎_elim h (λ m. p (subst (λ i. Fit rs x i) (omega arith) g)) (lt-or-le k n)

-- ---- a closed set after x contains a candidate that fits

module _ (rs : List (Implication ℕ)) (x q : ℕ) (c : Closed words rs q) (b : Before x q) where
  raise-part : Sub (raise x b.at) q
  raise-part = record {
    at = λ k h. ⊎_elim (λ l. omega (arith, raise-low x b.at k l, b.agree k l))
        (λ l. ⊎_elim (λ m. absurd (omega (arith, raise-high x b.at k m)))
        (λ m. subst (λ i. In i q) (omega arith) b.holds) (lt-or-le b.at k))
        (lt-or-le k b.at);
  }

  candidate-part : Sub (candidate rs x b.at) q
  candidate-part = (closure-least rs (raise x b.at)).least q c raise-part

  difference-fits : Fit rs x b.at
  difference-fits = record {
    lacks = b.lacks;
    same = agree_of (candidate rs x b.at) x b.at (λ k l.
        omega (arith, raise-low x b.at k l, b.agree k l, digit-sub candidate-part k, digit-sub (closure-least rs (raise x b.at)).above k));
  }

-- ---- the next closed set

module _ (rs : List (Implication ℕ)) (n x : ℕ) (over : All (Over words (full n)) rs) where
  found-next : (r : ℕ) → Largest rs x n r → IsNext rs n x r
  found-next r l =
      let j = l.at in
      let t = closure-least rs (raise x j) in
      let low : (i : ℕ) → i < j → digit (candidate rs x j) i ≡ digit x i = agree_at (candidate rs x j) x j l.fit.same in
      subst (λ y. IsNext rs n x y) (sym l.is) (record {
        closed = t.member;
        inside = closure-inside rs n over (lt-sub-full (raise x j) n (lt_of_lt_of_le (raise-lt x j) (pow_mono l.small)));
        later = record { at = j; lacks = l.fit.lacks; holds = t.above.at j (raise-at x j); agree = λ i h. sym (low i h) };
        first = λ q c s b. ⊎_elim
            (λ m. inr (record { at = b.at; lacks = low b.at m ∙ b.lacks; holds = b.holds; agree = λ i h. low i (omega arith) ∙ b.agree i h }))
            (λ m. ⊎_elim (λ k. absurd (l.largest b.at k (member-lt q b.at n (sub-full-lt q n s) b.holds) (difference-fits rs x q c b)))
            (λ k. sub-before (subst (λ i. Sub (candidate rs x i) q) (omega arith) (candidate-part rs x q c b)))
            (lt-or-le j b.at))
            (lt-or-le b.at j);
      })

  pub next-is : Sub x (full n) → (x ≡ full n → ⊥) → IsNext rs n x (next rs n x)
  next-is s ne =
      let b = proper-before s ne in
      ⊎_elim (found-next (next rs n x))
      (λ h. absurd (h b.at (full-member n b.at b.holds) (difference-fits rs x (full n) (full-closed rs n over) b)))
      (searched rs x n)
