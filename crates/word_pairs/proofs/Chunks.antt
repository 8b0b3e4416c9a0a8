-- The chunks of two words that a slice has whole: how many there are, and which words they hold.
use Rattle.std.specs.Prelude.{◌≡◌, List, [], ℕ, zero, suc, ◌+◌, ◌*◌, ◌/◌, ◌<◌, min, length, get_or, take, drop}
use Rattle.std.proofs.Common.{refl, ap, ◌∙◌, arith}
use Rattle.std.specs.Simd.{first_chunks}
use Rattle.std.proofs.lemmas.List.{get_or-take, get_or-drop, length-take}

length_chunks : (m : ℕ) (ws : List ℕ) → length (first_chunks 2 m ws) ≡ m
length_chunks zero ws = refl
length_chunks (suc m) ws = ap suc (length_chunks m (drop 2 ws))

chunk-word : (m : ℕ) (ws : List ℕ) (k j : ℕ) → k < m → j < 2 → get_or (get_or (first_chunks 2 m ws) k []) j 0 ≡ get_or ws (k * 2 + j) 0
chunk-word zero ws k j h l = absurd (omega arith)
chunk-word (suc m) ws zero j h l =
    let e : j ≡ 0 * 2 + j = omega arith in
    get_or-take 2 ws j 0 l ∙ ap (λ i. get_or ws i 0) e
chunk-word (suc m) ws (suc k) j h l =
    let e : 2 + (k * 2 + j) ≡ suc k * 2 + j = omega arith in
    chunk-word m (drop 2 ws) k j (omega arith) l ∙ get_or-drop 2 ws (k * 2 + j) 0 ∙ ap (λ i. get_or ws i 0) e

module _ (ws : List ℕ) (cs : List (List ℕ)) (whole : cs ≡ first_chunks 2 (length ws / 2) ws) (n : ℕ) where
  pub length_taken : length (take n cs) ≡ min n (length ws / 2)
  length_taken = length-take n cs ∙ ap (λ l. min n (length l)) whole ∙ ap (min n) (length_chunks (length ws / 2) ws)

  module _ (k : ℕ) (h : k < length (take n cs)) where
    taken-word : (j : ℕ) → j < 2 → get_or (get_or (take n cs) k []) j 0 ≡ get_or ws (k * 2 + j) 0
    taken-word j l =
        ap (λ c. get_or c j 0) (get_or-take n cs k [] (omega (arith, length_taken))) ∙ ap (λ l. get_or (get_or l k []) j 0) whole
        ∙ chunk-word (length ws / 2) ws k j (omega (arith, length_taken)) l

    pub first_word : get_or (get_or (take n cs) k []) 0 0 ≡ get_or ws (k * 2) 0
    first_word =
        let e : k * 2 + 0 ≡ k * 2 = omega arith in
        taken-word 0 (omega arith) ∙ ap (λ i. get_or ws i 0) e

    pub second_word : get_or (get_or (take n cs) k []) 1 0 ≡ get_or ws (k * 2 + 1) 0
    second_word = taken-word 1 (omega arith)
