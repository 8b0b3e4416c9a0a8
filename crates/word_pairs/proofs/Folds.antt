-- A fold whose change computes a step at each made element is what the steps make over the list of them.
use Rattle.std.specs.Prelude.{◌≡◌, List, [], ◌∷◌, ℕ, zero, suc, ◌+◌, ◌-◌, ◌*◌, ◌/◌, ◌<◌, ◌≤◌, ◌^◌, min, length, get_or, drop}
use Rattle.std.proofs.Common.{w64, Fits, sym, ap, ◌∙◌, add-one, arith}
use Rattle.std.proofs.Math.Nat.{sub-zero}
use Rattle.implication.specs.Pairs.{pairs}
use Rattle.implication.proofs.Pairs.Laws.{pairs-at, pairs_end}
use Rattle.word_pairs.specs.Walks.{Makes, FoldPairs}

-- `all` takes a list one element at a time
module _ {A : Type 0} (step : A → ℕ → ℕ) (all : List A → ℕ → ℕ) (none : (x : ℕ) → all [] x ≡ x)
    (more : (a : A) (l : List A) (x : ℕ) → all (a ∷ l) x ≡ all l (step a x)) (make : ℕ → ℕ → A) (ws : List ℕ) (change : ℕ → ℕ → ℕ → ℕ → Type 0)
    (fits : (i : ℕ) → Fits w64 (get_or ws i 0))
    (agrees : (a b x : ℕ) → a < 2 ^ 64 → b < 2 ^ 64 → x < 2 ^ 64 → (y : ℕ) → change a b x y → y ≡ step (make a b) x) where
  behind : (n x i : ℕ) → i ≤ n → (y : ℕ) → Makes change ws i x y → all (pairs make n ws) x ≡ all (pairs make (n - i) (drop (i * 2) ws)) y
  unfolding Makes
  behind n x zero h y e = rw sub-zero (ap (all (pairs make n ws)) e)
  behind n x (suc i) h y (z, l, m, c) =
      let a = get_or ws (i * 2) 0 in
      let b = get_or ws (i * 2 + 1) 0 in
      behind n x i (omega arith) z m ∙ ap (λ os. all os z) (pairs-at make ws n i (omega arith)) ∙ more _ _ z
      ∙ ap (all (pairs make (n - (i + 1)) (drop ((i + 1) * 2) ws))) (sym (agrees a b z (fits (i * 2)).fits (fits (i * 2 + 1)).fits l y c))
      ∙ ap (λ k. all (pairs make (n - k) (drop (k * 2) ws)) y) (add-one i)

  pub fold-made : (count x y : ℕ) → FoldPairs change count ws x y → y ≡ all (pairs make (min count (length ws / 2)) ws) x
  fold-made count x y m =
      let n = min count (length ws / 2) in
      sym (behind n x n (omega arith) y m ∙ ap (λ os. all os y) (pairs_end make (drop (n * 2) ws) n n (omega arith)) ∙ none y)
