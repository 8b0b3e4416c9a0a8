-- The attributes that pass a test are just those below n that do (`passing-in`, `passing-passes`, `passing-below`).
use Rattle.std.specs.Prelude.{◌≡◌, Bool, ◌⊎◌}
use Rattle.std.proofs.Math.Path.{refl, ap}
use Rattle.std.proofs.Common.{sym, subst, ◌∙◌, true≢false, inl, inr, mod-eq_of_lt}
use Rattle.std.proofs.Math.Bool.{true, false}
use Prim.Native.Nat.{ℕ, zero, suc, ◌+◌, ◌^◌, ◌≤◌, ◌<◌}
use native.Mathlib.Omega.{arith}
use Rattle.std.proofs.Math.Nat.{pow-suc}
use Rattle.attribute_set.specs.Sets.{digit, In}
use Rattle.attribute_set.proofs.Sets.Laws.{lt-or-le, member-lt, digit-none}
use Rattle.attribute_set.specs.Lectic.{raise}
use Rattle.attribute_set.proofs.Lectic.Laws.{raise-low, raise-at}
use Rattle.attribute_set.specs.Passing.{passing}

module _ (f : ℕ → Bool) where
  pub passing-none : passing f 0 ≡ 0
  unfolding passing
  passing-none = refl

  pub passing-lt : (n : ℕ) → passing f n < 2 ^ n
  unfolding passing
  passing-lt zero = omega arith
  passing-lt (suc n) = go (f n) (passing-lt n)
    where
      go : (b : Bool) → passing f n < 2 ^ n → elim b [ true ↦ 2 ^ n + passing f n | false ↦ passing f n ] < 2 ^ suc n
      go true h = omega (arith, h, pow-suc 2 n)
      go false h = omega (arith, h, pow-suc 2 n)

  -- attribute n is raised above those below it, or left out
  pub passing-true : (n : ℕ) → f n ≡ true → passing f (suc n) ≡ raise (passing f n) n
  unfolding passing
  passing-true n e = rw (e, passing) (ap (λ (k : ℕ). 2 ^ n + k) (sym (mod-eq_of_lt (passing-lt n))))

  pub passing-false : (n : ℕ) → f n ≡ false → passing f (suc n) ≡ passing f n
  unfolding passing
  passing-false n e = rw (e, passing)

  -- just the attributes below n that pass
  pub passing-in : (n j : ℕ) → j < n → f j ≡ true → In j (passing f n)
  passing-in zero j h e = absurd (omega arith)
  passing-in (suc n) j h e = go (f n) refl (lt-or-le j n) (λ l. passing-in n j l e)
    where
      last : n ≤ j → j ≡ n
      last l = omega arith

      go : (b : Bool) → f n ≡ b → (j < n) ⊎ (n ≤ j) → (j < n → In j (passing f n)) → In j (passing f (suc n))
      go true t (inl l) m = ap (λ (k : ℕ). digit k j) (passing-true n t) ∙ raise-low (passing f n) n j l ∙ m l
      go true t (inr l) m = subst (λ (k : ℕ). In k (passing f (suc n))) (sym (last l)) (ap (λ (k : ℕ). digit k n) (passing-true n t) ∙ raise-at (passing f n) n)
      go false t (inl l) m = ap (λ (k : ℕ). digit k j) (passing-false n t) ∙ m l
      go false t (inr l) m = absurd (true≢false (sym e ∙ ap f (last l) ∙ t))

  pub passing-passes : (n j : ℕ) → In j (passing f n) → f j ≡ true
  unfolding passing
  passing-passes zero j m = absurd (omega (arith, digit-none j, m))
  passing-passes (suc k) j m = by (f k) refl (lt-or-le j k) (passing-passes k j)
    where
      by : (b : Bool) → f k ≡ b → (j < k) ⊎ (k ≤ j) → (In j (passing f k) → f j ≡ true) → f j ≡ true
      by true t (inl l) h = h (sym (raise-low (passing f k) k j l) ∙ ap (λ (w : ℕ). digit w j) (sym (passing-true k t)) ∙ m)
      by true t (inr l) h = let e : j ≡ k = omega (arith, l, member-lt (passing f (suc k)) j (suc k) (passing-lt (suc k)) m) in ap f e ∙ t
      by false t l h = h (ap (λ (w : ℕ). digit w j) (sym (passing-false k t)) ∙ m)

  pub passing-below : (n j : ℕ) → In j (passing f n) → j < n
  passing-below n j h = member-lt (passing f n) j n (passing-lt n) h

-- tests that agree below n give the same
pub passing-same : (f g : ℕ → Bool) (n : ℕ) → ((j : ℕ) → j < n → f j ≡ g j) → passing f n ≡ passing g n
unfolding passing
passing-same f g zero h = refl
passing-same f g (suc n) h =
    ap (λ b. elim b [ true ↦ 2 ^ n + passing f n | false ↦ passing f n ]) (h n (omega arith))
    ∙ ap (λ (k : ℕ). elim (g n) [ true ↦ 2 ^ n + k | false ↦ k ]) (passing-same f g n (λ j l. h j (omega arith)))
