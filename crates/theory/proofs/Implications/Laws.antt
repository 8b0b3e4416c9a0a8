-- Laws of closed sets and closures: a set is closed under a list or some member of the list breaks it, a set has one
-- closure in a family, families with the same members give the same closures, and a background is closed under meets.
use Rattle.std.specs.Prelude.{◌≡◌, refl, ◌⊎◌}
use Rattle.std.proofs.Common.{inl, inr}
use mathlib.Core.List.{List, [], ◌∷◌, Memᴰ}
use Rattle.theory.proofs.Lists.Laws.{all_nil, all_cons}
use Rattle.theory.specs.Sets.{Sets}
use Rattle.theory.specs.Implications.{Implication, Respects, Closed, Least, Background}

module _ (𝓢 : Sets) where
  infix 4 ◌⊑◌
  infixl 60 ◌∩◌
  open 𝓢 use {S, ◌⊑◌, ⊑-dec, ⊑_refl, ⊑_trans, ⊑-antisym, ◌∩◌, ∩-left, ∩-right, ∩-great}

  pub ≡-dec : (a b : S) → Dec (a ≡ b)
  ≡-dec a b = go (⊑-dec a b) (⊑-dec b a)
    where
      go : Dec (a ⊑ b) → Dec (b ⊑ a) → Dec (a ≡ b)
      go (yes h) (yes k) = yes (⊑-antisym h k)
      go (yes h) (no k) = no (λ e. k (rw e (⊑_refl b)))
      go (no h) d = no (λ e. h (rw e (⊑_refl b)))

  -- q contains the premise and not the conclusion
  abbrev pub Breaks : Implication S → S → Type 0
  Breaks y q = (y.premise ⊑ q) × (y.conclusion ⊑ q → ⊥)

  pub closed-or-breaks : (l : List (Implication S)) (q : S) → Closed 𝓢 l q ⊎ ((y : Implication S) × Memᴰ y l × Breaks y q)
  closed-or-breaks [] q = inl (all_nil _)
  closed-or-breaks (r ∷ l) q = go (⊑-dec r.premise q) (⊑-dec r.conclusion q) (closed-or-breaks l q)
    where
      later : Respects 𝓢 r q → Closed 𝓢 l q ⊎ ((y : Implication S) × Memᴰ y l × Breaks y q)
          → Closed 𝓢 (r ∷ l) q ⊎ ((y : Implication S) × Memᴰ y (r ∷ l) × Breaks y q)
      later h (inl c) = inl (all_cons h c)
      later h (inr (y, m, b)) = inr (y, Memᴰ.tail m, b)

      go : Dec (r.premise ⊑ q) → Dec (r.conclusion ⊑ q) → Closed 𝓢 l q ⊎ ((y : Implication S) × Memᴰ y l × Breaks y q)
          → Closed 𝓢 (r ∷ l) q ⊎ ((y : Implication S) × Memᴰ y (r ∷ l) × Breaks y q)
      go d (yes c) t = later (λ _. c) t
      go (yes p) (no c) t = inr (r, Memᴰ.head refl, (p, c))
      go (no p) (no c) t = later (λ x. absurd (p x)) t

  pub least-one : {Γ : S → Type 0} {q c d : S} → Least 𝓢 Γ q c → Least 𝓢 Γ q d → c ≡ d
  least-one h k = ⊑-antisym (h.least _ k.member k.above) (k.least _ h.member h.above)

  pub least-same : {Γ Δ : S → Type 0} {q c : S} → ((q : S) → Γ q → Δ q) → ((q : S) → Δ q → Γ q) → Least 𝓢 Γ q c → Least 𝓢 Δ q c
  least-same to from h = record { above = h.above; member = to _ h.member; least = λ z m. h.least z (from z m) }

  pub background-meet : (top : S) (B : List (Implication S)) (a b : S) → Background 𝓢 top B a → Background 𝓢 top B b → Background 𝓢 top B (a ∩ b)
  background-meet top B a b h k = record {
    inside = ⊑_trans (∩-left a b) h.inside;
    closed = λ r m i. ∩-great (h.closed r m (⊑_trans i (∩-left a b))) (k.closed r m (⊑_trans i (∩-right a b)));
  }
