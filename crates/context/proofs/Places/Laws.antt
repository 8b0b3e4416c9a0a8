-- The lowest place is the first at which the test holds (`lowest-at`, `lowest-least`), and there is one just if the test holds of some
-- member (`anywhere-true`, `anywhere-false`); how it moves along a list, and what members of which the test fails add.
use Rattle.std.specs.Prelude.{◌≡◌, Bool, get_or}
use Rattle.std.proofs.Math.Path.{refl, ap}
use Rattle.std.proofs.Common.{◌∙◌}
use Rattle.std.proofs.Math.Bool.{true, false}
use mathlib.Core.List.{List, [], ◌∷◌, ◌++◌, Memᴰ}
use Prim.Native.Nat.{ℕ, zero, suc, ◌≤◌, ◌<◌}
use native.Mathlib.Omega.{arith}
use Rattle.std.proofs.Math.ListN.{length}
use borrow.Author.Tests.{ltb-true, ltb-false, le-ltb}
use Rattle.theory.specs.Lists.{All}
use Rattle.theory.proofs.Lists.Laws.{all_nil, all_cons, all_append}
use Rattle.context.specs.Places.{lowest, anywhere}

module _ {A : Type 0} (f : A → Bool) where
  -- the test holds at the first member
  pub lowest-found : (x : A) (l : List A) → f x ≡ true → lowest f (x ∷ l) ≡ 0
  unfolding lowest
  lowest-found x l e = rw (lowest, e)

  -- it fails there, and the search goes on behind it
  pub lowest-passed : (x : A) (l : List A) → f x ≡ false → lowest f (x ∷ l) ≡ suc (lowest f l)
  unfolding lowest
  lowest-passed x l e = rw (lowest, e)

  -- what holds of 0, where the test holds of the first member, and of one more than the place behind, where it fails, holds of the place
  lowest-cases : (P : ℕ → Type 0) (x : A) (l : List A) → (f x ≡ true → P 0) → (f x ≡ false → P (suc (lowest f l))) → P (lowest f (x ∷ l))
  unfolding lowest
  lowest-cases P x l t u = go (f x) refl
    where
      go : (b : Bool) → f x ≡ b → P (elim b [ true ↦ 0 | false ↦ suc (lowest f l) ])
      go true e = t e
      go false e = u e

  pub lowest-most : (l : List A) → lowest f l ≤ length l
  unfolding lowest
  lowest-most [] = omega arith
  lowest-most (x ∷ l) = lowest-cases (λ k. k ≤ suc (length l)) x l (λ e. omega arith) (λ e. omega (arith, lowest-most l))

  -- where the lowest place is one of the list, the test holds at it and at no earlier one
  pub lowest-at : (l : List A) (d : A) → lowest f l < length l
      → (f (get_or l (lowest f l) d) ≡ true) × ((i : ℕ) → i < lowest f l → f (get_or l i d) ≡ false)
  unfolding lowest
  lowest-at [] d h = absurd (omega arith)
  lowest-at (x ∷ l) d h =
      lowest-cases
      (λ k. k < suc (length l) → (f (get_or (x ∷ l) k d) ≡ true) × ((i : ℕ) → i < k → f (get_or (x ∷ l) i d) ≡ false))
      x l (λ e k. (e, λ i u. absurd (omega arith))) (λ e k. let t = lowest-at l d (omega arith) in (t.0, earlier e t.1)) h
    where
      earlier : f x ≡ false → ((i : ℕ) → i < lowest f l → f (get_or l i d) ≡ false)
          → (i : ℕ) → i < suc (lowest f l) → f (get_or (x ∷ l) i d) ≡ false
      earlier e u zero k = e
      earlier e u (suc i) k = u i (omega arith)

  -- a place at which the test holds is no earlier
  pub lowest-least : (l : List A) (d : A) (k : ℕ) → k < length l → f (get_or l k d) ≡ true → lowest f l ≤ k
  unfolding lowest
  lowest-least [] d k h e = absurd (omega arith)
  lowest-least (x ∷ l) d zero h e = omega (arith, lowest-found x l e)
  lowest-least (x ∷ l) d (suc k) h e =
      lowest-cases (λ i. i ≤ suc k) x l (λ t. omega arith) (λ t. omega (arith, lowest-least l d k (omega arith) e))

  -- the test fails of every member just if the lowest place is the length
  pub lowest-none : (l : List A) → All (λ x. f x ≡ false) l → lowest f l ≡ length l
  unfolding lowest
  lowest-none [] h = refl
  lowest-none (x ∷ l) h = lowest-passed x l (h x (Memᴰ.head refl)) ∙ ap suc (lowest-none l (λ y m. h y (Memᴰ.tail m)))

  pub none-lowest : (l : List A) → length l ≤ lowest f l → All (λ x. f x ≡ false) l
  none-lowest [] h = all_nil _
  none-lowest (x ∷ l) h =
      lowest-cases (λ k. suc (length l) ≤ k → All (λ y. f y ≡ false) (x ∷ l)) x l (λ e k. absurd (omega arith))
      (λ e k. all_cons e (none-lowest l (omega arith))) h

  -- the test of somewhere is right
  pub anywhere-false : (l : List A) → anywhere f l ≡ false → All (λ x. f x ≡ false) l
  unfolding anywhere
  anywhere-false l e = none-lowest l (ltb-false _ _ e)

  pub all-anywhere : (l : List A) → All (λ x. f x ≡ false) l → anywhere f l ≡ false
  unfolding anywhere
  all-anywhere l h =
      let e : lowest f l ≡ length l = lowest-none l h in
      le-ltb (lowest f l) (length l) (omega arith)

  pub anywhere-true : (l : List A) → anywhere f l ≡ true → (x : A) × Memᴰ x l × (f x ≡ true)
  unfolding anywhere lowest
  anywhere-true l e = go l (ltb-true _ _ e)
    where
      go : (l : List A) → lowest f l < length l → (x : A) × Memᴰ x l × (f x ≡ true)
      go [] h = absurd (omega arith)
      go (x ∷ l) h =
          lowest-cases (λ k. k < suc (length l) → (y : A) × Memᴰ y (x ∷ l) × (f y ≡ true)) x l
          (λ t k. (x, Memᴰ.head refl, t))
          (λ t k. let r = go l (omega arith) in (r.0, Memᴰ.tail r.1, r.2)) h

  -- a list behind another is searched only where the first has no place; where the test fails of all of it there is none
  pub lowest-append-found : (k l : List A) → lowest f k < length k → lowest f (k ++ l) ≡ lowest f k
  unfolding lowest
  lowest-append-found [] l h = absurd (omega arith)
  lowest-append-found (x ∷ k) l h =
      lowest-cases (λ i. i < suc (length k) → lowest f (x ∷ (k ++ l)) ≡ i) x k (λ e i. lowest-found x (k ++ l) e)
      (λ e i. lowest-passed x (k ++ l) e ∙ ap suc (lowest-append-found k l (omega arith))) h

  pub lowest-append-none : (k l : List A) → length k ≤ lowest f k → All (λ x. f x ≡ false) l → lowest f (k ++ l) ≡ length (k ++ l)
  lowest-append-none k l h none = lowest-none (k ++ l) (all_append k l (none-lowest k h) none)

-- tests that agree on every member have the same lowest place
pub lowest-same : {A : Type 0} (f g : A → Bool) (l : List A) → All (λ x. f x ≡ g x) l → lowest f l ≡ lowest g l
unfolding lowest
lowest-same f g [] h = refl
lowest-same f g (x ∷ l) h =
    ap (λ b. elim b as (λ y. ℕ) [ true ↦ 0 | false ↦ suc (lowest f l) ]) (h x (Memᴰ.head refl))
    ∙ ap (λ (k : ℕ). elim (g x) [ true ↦ 0 | false ↦ suc k ]) (lowest-same f g l (λ y m. h y (Memᴰ.tail m)))
