-- A search finds the lowest place among the elements made of the pairs, where its test computes that of the element: of count pairs that
-- the slice has whole, or of any count where what it has not whole does not pass (`first-whole`, `first-lowest`).
use Rattle.std.specs.Prelude.{◌≡◌, ◌⊎◌, Bool, true, false, List, ℕ, zero, suc, ◌+◌, ◌-◌, ◌*◌, ◌/◌, ◌<◌, ◌≤◌, ◌^◌, length, get_or, drop}
use Rattle.std.proofs.Common.{w64, Fits, sym, ap, ◌∙◌, inl, inr, add-one, arith}
use Rattle.std.proofs.Math.Nat.{sub-zero}
use Rattle.std.proofs.Math.ListN.{get_or-eq_default}
use Rattle.attribute_set.proofs.Sets.Laws.{lt-or-le}
use Rattle.implication.specs.Pairs.{pairs}
use Rattle.context.specs.Places.{lowest}
use Rattle.context.proofs.Places.Search.{pair_found, pair-passed, pair-none}
use Rattle.word_pairs.specs.Walks.{FirstThat}

module _ {A : Type 0} (f : A → Bool) (make : ℕ → ℕ → A) (ws : List ℕ) (count : ℕ) where
  -- the test of the pair at i
  abbrev at : ℕ → Bool
  at i = f (make (get_or ws (i * 2) 0) (get_or ws (i * 2 + 1) 0))

  lowest-of : (k : ℕ) → k ≤ count → ((i : ℕ) → i < k → at i ≡ false) → (k < count → at k ≡ true) → k ≡ lowest f (pairs make count ws)
  lowest-of k most before found = go (lt-or-le k count)
    where
      passed : (i : ℕ) → i ≤ k → lowest f (pairs make count ws) ≡ i + lowest f (pairs make (count - i) (drop (i * 2) ws))
      passed zero h = rw sub-zero (omega arith)
      passed (suc i) h = rw (← add-one i) (omega (arith, passed i (omega arith), pair-passed f make ws count i (omega arith) (before i (omega arith))))

      go : (k < count) ⊎ (count ≤ k) → k ≡ lowest f (pairs make count ws)
      go (inl l) = omega (arith, passed k (omega arith), pair_found f make ws count k l (found l))
      go (inr l) = omega (arith, passed k (omega arith), pair-none f make ws count k l)

  module _ (test : ℕ → ℕ → Bool → Type 0) (fits : (i : ℕ) → Fits w64 (get_or ws i 0))
      (agrees : (a b : ℕ) → a < 2 ^ 64 → b < 2 ^ 64 → (r : Bool) → test a b r → r ≡ f (make a b)) (k : ℕ) (first : FirstThat test count ws k) where
    found : ((i : ℕ) → i < k → length ws / 2 ≤ i → at i ≡ false) → k ≡ lowest f (pairs make count ws)
    found past =
        lowest-of k first.most (λ i h. go i h (lt-or-le i (length ws / 2))) (λ h. sym (agrees _ _ (fits (k * 2)).fits (fits (k * 2 + 1)).fits true (first.at h).1))
      where
        go : (i : ℕ) → i < k → (i < length ws / 2) ⊎ (length ws / 2 ≤ i) → at i ≡ false
        go i h (inl l) = sym (agrees _ _ (fits (i * 2)).fits (fits (i * 2 + 1)).fits false (first.before i h l))
        go i h (inr l) = past i h l

    pub first-whole : count ≤ length ws / 2 → k ≡ lowest f (pairs make count ws)
    first-whole h = found (λ i l m. absurd (omega (arith, first.most)))

    pub first-lowest : ((a : ℕ) → f (make a 0) ≡ false) → k ≡ lowest f (pairs make count ws)
    first-lowest idle =
        found (λ i l m. ap (λ b. f (make (get_or ws (i * 2) 0) b)) (get_or-eq_default ws 0 (omega arith)) ∙ idle (get_or ws (i * 2) 0))
