-- Laws of the reading by pairs: how many it reads, which, what a written pair adds or alters, and what lies past the slice's end.
use Rattle.std.specs.Prelude.{◌≡◌, ◌⊎◌, length, set}
use Rattle.std.proofs.Math.Path.{refl, sym, ap}
use Rattle.std.proofs.Common.{◌∙◌, inl, inr, length-drop}
use mathlib.Core.List.{List, [], ◌∷◌, ◌++◌, Memᴰ, append-nil}
use Prim.Native.Nat.{ℕ, zero, suc, ◌+◌, ◌-◌, ◌*◌, ◌/◌, ◌≤◌, ◌<◌, min}
use native.Mathlib.Omega.{arith}
use Rattle.std.proofs.Math.ListN.{get_or, drop, drop_of_length-le, get_or-eq_default}
use Rattle.std.proofs.Math.Seq.{get_or-drop, drop-drop}
use Rattle.theory.specs.Lists.{All}
use Rattle.theory.proofs.Lists.Laws.{all_nil, all_cons}
use Rattle.attribute_set.proofs.Sets.Laws.{lt-or-le}
use Rattle.implication.specs.Pairs.{pairs}

module _ {A : Type 0} (make : ℕ → ℕ → A) where
  pub length_pairs : (n : ℕ) (ws : List ℕ) → length (pairs make n ws) ≡ n
  unfolding pairs
  length_pairs zero ws = refl
  length_pairs (suc n) ws = ap suc (length_pairs n (drop 2 ws))

  -- the pair at i, then those after it
  pub pairs-at : (ws : List ℕ) (n i : ℕ) → i < n
      → pairs make (n - i) (drop (i * 2) ws)
      ≡ make (get_or ws (i * 2) 0) (get_or ws (i * 2 + 1) 0) ∷ pairs make (n - (i + 1)) (drop ((i + 1) * 2) ws)
  unfolding pairs
  pairs-at ws n i h =
      let e : n - i ≡ suc (n - (i + 1)) = omega arith in
      let z : i * 2 + 0 ≡ i * 2 = omega arith in
      let y : i * 2 + 2 ≡ (i + 1) * 2 = omega arith in
      let a : get_or (drop (i * 2) ws) 0 0 ≡ get_or ws (i * 2) 0 = get_or-drop (i * 2) ws 0 0 ∙ ap (λ (k : ℕ). get_or ws k 0) z in
      let b : get_or (drop (i * 2) ws) 1 0 ≡ get_or ws (i * 2 + 1) 0 = get_or-drop (i * 2) ws 1 0 in
      let d : drop 2 (drop (i * 2) ws) ≡ drop ((i + 1) * 2) ws = drop-drop 2 (i * 2) ws ∙ ap (λ (k : ℕ). drop k ws) y in
      rw e (rw (a, b, d) refl)

  -- no pair is left
  pub pairs_end : (ws : List ℕ) (n i : ℕ) → n ≤ i → pairs make (n - i) ws ≡ []
  unfolding pairs
  pairs_end ws n i h =
      let e : n - i ≡ 0 = omega arith in
      rw e

  -- the first m pairs, then k more
  pub pairs-split : (m k : ℕ) (ws : List ℕ) → pairs make (m + k) ws ≡ pairs make m ws ++ pairs make k (drop (m * 2) ws)
  unfolding pairs
  pairs-split zero k ws =
      let e : 0 + k ≡ k = omega arith in
      rw e
  pairs-split (suc m) k ws =
      let e : suc m + k ≡ suc (m + k) = omega arith in
      let j : suc m * 2 ≡ 2 + m * 2 = omega arith in
      let d : drop (suc m * 2) ws ≡ drop (m * 2) (drop 2 ws) = ap (λ (i : ℕ). drop i ws) j ∙ sym (drop-drop (m * 2) 2 ws) in
      rw (e, d) (ap (λ l. make (get_or ws 0 0) (get_or ws 1 0) ∷ l) (pairs-split m k (drop 2 ws)))

  pub pairs-member : (n i : ℕ) (ws : List ℕ) → i < n → Memᴰ (make (get_or ws (i * 2) 0) (get_or ws (i * 2 + 1) 0)) (pairs make n ws)
  unfolding pairs
  pairs-member zero i ws h = absurd (omega arith)
  pairs-member (suc n) zero ws h = Memᴰ.head refl
  pairs-member (suc n) (suc i) ws h =
      let j : suc i * 2 ≡ 2 + i * 2 = omega arith in
      let k : suc i * 2 + 1 ≡ 2 + (i * 2 + 1) = omega arith in
      let a : get_or ws (suc i * 2) 0 ≡ get_or (drop 2 ws) (i * 2) 0 = ap (λ (m : ℕ). get_or ws m 0) j ∙ sym (get_or-drop 2 ws (i * 2) 0) in
      let b : get_or ws (suc i * 2 + 1) 0 ≡ get_or (drop 2 ws) (i * 2 + 1) 0 = ap (λ (m : ℕ). get_or ws m 0) k ∙ sym (get_or-drop 2 ws (i * 2 + 1) 0) in
      Memᴰ.tail {xs = pairs make n (drop 2 ws)} (rw (a, b) (pairs-member n i (drop 2 ws) (omega arith)))

  pub pairs-get : (n i : ℕ) (ws : List ℕ) (d : A) → i < n → get_or (pairs make n ws) i d ≡ make (get_or ws (i * 2) 0) (get_or ws (i * 2 + 1) 0)
  unfolding pairs
  pairs-get zero i ws d h = absurd (omega arith)
  pairs-get (suc n) zero ws d h = refl
  pairs-get (suc n) (suc i) ws d h =
      let j : suc i * 2 ≡ 2 + i * 2 = omega arith in
      let k : suc i * 2 + 1 ≡ 2 + (i * 2 + 1) = omega arith in
      pairs-get n i (drop 2 ws) d (omega arith) ∙ ap (λ x. make x (get_or (drop 2 ws) (i * 2 + 1) 0)) (get_or-drop 2 ws (i * 2) 0 ∙ ap (λ (m : ℕ). get_or ws m 0) (sym j))
      ∙ ap (λ x. make (get_or ws (suc i * 2) 0) x) (get_or-drop 2 ws (i * 2 + 1) 0 ∙ ap (λ (m : ℕ). get_or ws m 0) (sym k))

  -- a pair written behind n pairs is the last of n + 1
  pub pairs-put : (n : ℕ) (ws : List ℕ) (a b : ℕ) → n * 2 + 1 < length ws
      → pairs make (suc n) (set (set ws (n * 2) a) (n * 2 + 1) b) ≡ pairs make n ws ++ (make a b ∷ [])
  unfolding pairs
  pairs-put zero [] a b h = absurd (omega arith)
  pairs-put zero (x ∷ []) a b h = absurd (omega arith)
  pairs-put zero (x ∷ y ∷ ws) a b h = refl
  pairs-put (suc n) [] a b h = absurd (omega arith)
  pairs-put (suc n) (x ∷ []) a b h = absurd (omega arith)
  pairs-put (suc n) (x ∷ y ∷ ws) a b h =
      let e : suc n * 2 ≡ suc (suc (n * 2)) = omega arith in
      let f : suc (suc (n * 2)) + 1 ≡ suc (suc (n * 2 + 1)) = omega arith in
      rw (e, f) (ap (λ l. make x y ∷ l) (pairs-put n ws a b (omega arith)))

  -- a pair written at the place k is the element at k
  pub pairs_set : (n k : ℕ) (ws : List ℕ) (a b : ℕ) → k * 2 + 1 < length ws
      → pairs make n (set (set ws (k * 2) a) (k * 2 + 1) b) ≡ set (pairs make n ws) k (make a b)
  unfolding pairs
  pairs_set zero k ws a b h = refl
  pairs_set (suc n) k [] a b h = absurd (omega arith)
  pairs_set (suc n) k (x ∷ []) a b h = absurd (omega arith)
  pairs_set (suc n) zero (x ∷ y ∷ ws) a b h = refl
  pairs_set (suc n) (suc k) (x ∷ y ∷ ws) a b h =
      let e : suc k * 2 ≡ suc (suc (k * 2)) = omega arith in
      let f : suc (suc (k * 2)) + 1 ≡ suc (suc (k * 2 + 1)) = omega arith in
      rw (e, f) (ap (λ l. make x y ∷ l) (pairs_set n k ws a b (omega arith)))

  -- past the last whole pair the second word is 0
  pub pairs-short : (P : A → Type 0) → ((a : ℕ) → P (make a 0)) → (n : ℕ) (ws : List ℕ) → length ws < 2 → All P (pairs make n ws)
  unfolding pairs
  pairs-short P h zero ws l = all_nil P
  pairs-short P h (suc n) ws l =
      let e : get_or ws 1 0 ≡ 0 = get_or-eq_default ws 0 (omega arith) in
      let d : drop 2 ws ≡ [] = drop_of_length-le ws {i = 2} (omega arith) in
      all_cons (rw e (h (get_or ws 0 0))) (rw d (pairs-short P h n [] (omega arith)))

  -- what is counted is what whole pairs there are, then pairs whose second word is 0
  pub pairs-whole : (P : A → Type 0) → ((a : ℕ) → P (make a 0)) → (n : ℕ) (ws : List ℕ)
      → (t : List A) × (pairs make n ws ≡ pairs make (min n (length ws / 2)) ws ++ t) × All P t
  pairs-whole P h n ws = go (lt-or-le (length ws / 2) n)
    where
      go : (length ws / 2 < n) ⊎ (n ≤ length ws / 2) → (t : List A) × (pairs make n ws ≡ pairs make (min n (length ws / 2)) ws ++ t) × All P t
      go (inl l) =
          let m = length ws / 2 in
          let e : n ≡ m + (n - m) = omega arith in
          let f : m ≡ min n m = omega arith in
          let s : length (drop (m * 2) ws) < 2 = rw length-drop (omega arith) in (
            pairs make (n - m) (drop (m * 2) ws),
            ap (λ (k : ℕ). pairs make k ws) e ∙ pairs-split m (n - m) ws ∙ ap (λ (k : ℕ). pairs make k ws ++ pairs make (n - m) (drop (m * 2) ws)) f,
            pairs-short P h (n - m) (drop (m * 2) ws) s,
          )
      go (inr l) =
          let f : n ≡ min n (length ws / 2) = omega arith in
          ([], ap (λ (k : ℕ). pairs make k ws) f ∙ sym (append-nil _), all_nil P)
