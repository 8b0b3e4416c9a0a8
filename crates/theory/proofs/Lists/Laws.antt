-- Laws of `All` and `Pairwise`, a list without one place of it, and the pigeonhole principle: where each member of a
-- list is served by some member of another, and none serves two, the first list is no longer than the second.
-- Membership is `List.Memᴰ`, a place in the list.
use Rattle.std.specs.Prelude.{◌≡◌, refl, ◌⊎◌, suc, ◌≤◌, length}
use Rattle.std.proofs.Common.{sym, ap, subst, ◌∙◌, inl, inr, zero-le, suc-le-suc}
use mathlib.Core.List.Memᴰ
use mathlib.Core.List.{List, [], ◌∷◌, ◌++◌, Memᴰ}
use Rattle.theory.specs.Lists.{All, Pairwise}

module _ {A : Type 0} where
  pub all_nil : (P : A → Type 0) → All P []
  all_nil P x m = absurd (Memᴰ.not-nil m)

  pub all_cons : {P : A → Type 0} {a : A} {l : List A} → P a → All P l → All P (a ∷ l)
  all_cons h t x (Memᴰ.head e) = rw e h
  all_cons h t x (Memᴰ.tail m) = t x m

  pub all_append : {P : A → Type 0} (s t : List A) → All P s → All P t → All P (s ++ t)
  all_append [] t h k = k
  all_append (a ∷ s) t h k = all_cons (h a (Memᴰ.head refl)) (all_append s t (λ x m. h x (Memᴰ.tail m)) k)

  pub all_drop : {P : A → Type 0} (s t : List A) → All P (s ++ t) → All P t
  all_drop s t h x m = h x (Memᴰ.append_right s m)

  pub all_take : {P : A → Type 0} (s t : List A) → All P (s ++ t) → All P s
  all_take s t h x m = h x (Memᴰ.append_left t m)

  pub all_snoc : {P : A → Type 0} (l : List A) (a : A) → All P l → P a → All P (l ++ (a ∷ []))
  all_snoc l a h k = all_append l (a ∷ []) h (all_cons k (all_nil _))

  pub pairwise_map : {R Q : A → A → Type 0} (l : List A) → ((x y : A) → Memᴰ x l → Memᴰ y l → R x y → Q x y) → Pairwise R l → Pairwise Q l
  pairwise_map [] f p = tt
  pairwise_map (x ∷ l) f p =
      (λ y m. f x y (Memᴰ.head refl) (Memᴰ.tail m) (p.0 y m), pairwise_map l (λ a b ma mb. f a b (Memᴰ.tail ma) (Memᴰ.tail mb)) p.1)

  -- two places of such a list: one member, or one before the other
  pub pairwise-cases : (R : A → A → Type 0) {a b : A} (l : List A) → Pairwise R l → Memᴰ a l → Memᴰ b l → (a ≡ b) ⊎ (R a b ⊎ R b a)
  pairwise-cases R l p (Memᴰ.head e) (Memᴰ.head f) = inl (e ∙ sym f)
  pairwise-cases R {b = b} l p (Memᴰ.head e) (Memᴰ.tail m) = inr (inl (rw e (p.0 b m)))
  pairwise-cases R {a} l p (Memᴰ.tail m) (Memᴰ.head f) = inr (inr (rw f (p.0 a m)))
  pairwise-cases R l p (Memᴰ.tail {xs = xs} m) (Memᴰ.tail k) = pairwise-cases R xs p.1 m k

  pub pairwise-snoc : (R : A → A → Type 0) (l : List A) (a : A) → Pairwise R l → All (λ x. R x a) l → Pairwise R (l ++ (a ∷ []))
  pairwise-snoc R [] a p h = (all_nil _, tt)
  pairwise-snoc R (x ∷ l) a p h = (all_snoc l a p.0 (h x (Memᴰ.head refl)), pairwise-snoc R l a p.1 (λ y m. h y (Memᴰ.tail m)))

  -- a list without one place of it
  abbrev pub rest : {a : A} (l : List A) → Memᴰ a l → List A
  rest l (Memᴰ.head {xs = xs} e) = xs
  rest l (Memᴰ.tail {x = x} {xs = xs} m) = x ∷ rest xs m

  pub length_rest : {a : A} (l : List A) (m : Memᴰ a l) → length l ≡ suc (length (rest l m))
  length_rest l (Memᴰ.head e) = refl
  length_rest l (Memᴰ.tail {xs = xs} m) = ap suc (length_rest xs m)

  pub rest_in : {a b : A} (l : List A) (m : Memᴰ a l) → Memᴰ b (rest l m) → Memᴰ b l
  rest_in l (Memᴰ.head e) k = Memᴰ.tail k
  rest_in l (Memᴰ.tail m) (Memᴰ.head f) = Memᴰ.head f
  rest_in l (Memᴰ.tail {xs = xs} m) (Memᴰ.tail k) = Memᴰ.tail (rest_in xs m k)

  pub mem-rest : {a b : A} (l : List A) (m : Memᴰ a l) → Memᴰ b l → (b ≡ a) ⊎ Memᴰ b (rest l m)
  mem-rest l (Memᴰ.head e) (Memᴰ.head f) = inl (f ∙ sym e)
  mem-rest l (Memᴰ.head e) (Memᴰ.tail k) = inr k
  mem-rest l (Memᴰ.tail m) (Memᴰ.head f) = inr (Memᴰ.head f)
  mem-rest {a} {b} l (Memᴰ.tail {x = x} {xs = xs} m) (Memᴰ.tail k) = go (mem-rest xs m k)
    where
      go : (b ≡ a) ⊎ Memᴰ b (rest xs m) → (b ≡ a) ⊎ Memᴰ b (x ∷ rest xs m)
      go (inl e) = inl e
      go (inr k') = inr (Memᴰ.tail k')

-- `Serve x y`: y serves x
module _ {A C : Type 0} (Serve : A → C → Type 0) where
  -- no y serves both
  abbrev Apart : A → A → Type 0
  Apart x z = (y : C) → Serve x y → Serve z y → ⊥

  pub pigeonhole : (l : List A) (l' : List C) → Pairwise Apart l → All (λ x. (y : C) × Memᴰ y l' × Serve x y) l → length l ≤ length l'
  pigeonhole [] l' p h = zero-le
  pigeonhole (x ∷ l) l' p h = rw (length_rest l' m) (suc-le-suc (pigeonhole l (rest l' m) p.1 others))
    where
      first : (y : C) × Memᴰ y l' × Serve x y
      first = h x (Memᴰ.head refl)

      m : Memᴰ first.0 l'
      m = first.1

      others : All (λ z. (y : C) × Memᴰ y (rest l' m) × Serve z y) l
      others z k = pick (h z (Memᴰ.tail k))
        where
          pick : (y : C) × Memᴰ y l' × Serve z y → (y : C) × Memᴰ y (rest l' m) × Serve z y
          pick (y, my, s) = go (mem-rest l' m my)
            where
              go : (y ≡ first.0) ⊎ Memᴰ y (rest l' m) → (y : C) × Memᴰ y (rest l' m) × Serve z y
              go (inl e) = absurd (p.0 z k first.0 first.2 (subst (Serve z) e s))
              go (inr k') = (y, k', s)
