-- No list with the same consequences relative to the background is shorter than a canonical one.
-- `minimal` says it for any background that is closed under meets, `minimal-list` for a background list and a closure
-- operator. The premise of each implication of the canonical list is broken by some implication of the other list, and
-- none breaks two premises; the rest is the pigeonhole principle.
use Rattle.std.specs.Prelude.{◌≡◌, ◌⊎◌, ◌↔◌, ◌≤◌, length}
use Rattle.std.proofs.Common.{inl, inr}
use mathlib.Core.List.{List, ◌++◌, Memᴰ}
use Rattle.theory.specs.Lists.{All}
use Rattle.theory.proofs.Lists.Laws.{all_append, all_drop, pairwise_map, pairwise-cases, pigeonhole}
use Rattle.theory.specs.Sets.{Sets}
use Rattle.theory.specs.Implications.{Implication, Respects, Closed, Least, Over, Background}
use Rattle.theory.proofs.Implications.Laws.{Breaks, closed-or-breaks, background-meet}
use Rattle.theory.specs.Canonical.{Model, Before, Canonical}

module _ (𝓢 : Sets) where
  infix 4 ◌⊑◌
  infixl 60 ◌∩◌
  open 𝓢 use {S, ◌⊑◌, ⊑-dec, ⊑_refl, ⊑_trans, ◌∩◌, ∩-left, ∩-right, ∩-great, ∪-left, ∪-right, ∪-least, ≺-subset}

  pub minimal : (Base : S → Type 0) → ((a b : S) → Base a → Base b → Base (a ∩ b)) → (l l' : List (Implication S)) → Canonical 𝓢 Base l
      → ((q : S) → Model 𝓢 Base l q → Closed 𝓢 l' q) → ((q : S) → Model 𝓢 Base l' q → Closed 𝓢 l q) → length l ≤ length l'
  minimal Base meet l l' canon to from = pigeonhole Serve l l' (pairwise_map l one_each canon.ordered) served
    where
      -- y, of the other list, breaks the premise of r
      Serve : Implication S → Implication S → Type 0
      Serve r y = Memᴰ y l' × Breaks 𝓢 y r.premise

      -- the premise of one implication of the canonical list respects every other
      respects : (t r : Implication S) → Memᴰ t l → Memᴰ r l → (t ≡ r) ⊎ Respects 𝓢 t r.premise
      respects t r mt mr = go (pairwise-cases (Before 𝓢) l canon.ordered mt mr)
        where
          go : (t ≡ r) ⊎ (Before 𝓢 t r ⊎ Before 𝓢 r t) → (t ≡ r) ⊎ Respects 𝓢 t r.premise
          go (inl e) = inl e
          go (inr (inl b)) = inr b.respected
          go (inr (inr b)) = inr (λ h. absurd (≺-subset h b.less))

      -- the meet of two premises, neither inside the other, is closed
      meet-closed : (r s : Implication S) → Memᴰ r l → Memᴰ s l → (r.premise ⊑ s.premise → ⊥) → (s.premise ⊑ r.premise → ⊥)
          → Closed 𝓢 l (r.premise ∩ s.premise)
      meet-closed r s mr ms nr ns t mt h = ∩-great (left (respects t r mt mr)) (right (respects t s mt ms))
        where
          hr : t.premise ⊑ r.premise
          hr = ⊑_trans h (∩-left _ _)

          hs : t.premise ⊑ s.premise
          hs = ⊑_trans h (∩-right _ _)

          left : (t ≡ r) ⊎ Respects 𝓢 t r.premise → t.conclusion ⊑ r.premise
          left (inl e) = absurd (nr (rw (← e) hs))
          left (inr f) = f hr

          right : (t ≡ s) ⊎ Respects 𝓢 t s.premise → t.conclusion ⊑ s.premise
          right (inl e) = absurd (ns (rw (← e) hr))
          right (inr f) = f hs

      one_each : (r s : Implication S) → Memᴰ r l → Memᴰ s l → Before 𝓢 r s → (y : Implication S) → Serve r y → Serve s y → ⊥
      one_each r s mr ms b y (m, (pr, cr)) (m', (ps, cs)) = go (⊑-dec r.premise s.premise) (⊑-dec s.premise r.premise)
        where
          inner : (q : S) → Model 𝓢 Base l q → y.premise ⊑ q → y.conclusion ⊑ q
          inner q k = to q k y m

          go : Dec (r.premise ⊑ s.premise) → Dec (s.premise ⊑ r.premise) → ⊥
          go (yes h) d = cs (⊑_trans (inner _ (canon.entries r mr).model (⊑_trans pr (∪-left _ _))) (∪-least h (b.respected h)))
          go (no h) (yes k) = ≺-subset k b.less
          go (no h) (no k) =
              let base : Base (r.premise ∩ s.premise) = meet _ _ (canon.entries r mr).base (canon.entries s ms).base in
              let both : Model 𝓢 Base l (r.premise ∩ s.premise) = record { base = base; closed = meet-closed r s mr ms h k } in
              cr (⊑_trans (inner _ both (∩-great pr ps)) (∩-left _ _))

      served : (r : Implication S) → Memᴰ r l → (y : Implication S) × Memᴰ y l' × Serve r y
      served r mr = go (closed-or-breaks 𝓢 l' r.premise)
        where
          go : Closed 𝓢 l' r.premise ⊎ ((y : Implication S) × Memᴰ y l' × Breaks 𝓢 y r.premise)
              → (y : Implication S) × Memᴰ y l' × Serve r y
          go (inl c) = let e = canon.entries r mr in absurd (e.proper (from r.premise (record { base = e.base; closed = c }) r mr (⊑_refl _)))
          go (inr (y, m, b)) = (y, m, (m, b))

  -- a canonical list lies inside top
  pub canonical-over : {top : S} {B l : List (Implication S)} → Canonical 𝓢 (Background 𝓢 top B) l → All (Over 𝓢 top) l
  canonical-over c r m = let e = c.entries r m in record { premise = e.base.inside; conclusion = ⊑_trans (∪-right _ _) e.model.base.inside }

  module _ (top : S) (B : List (Implication S)) (cl : List (Implication S) → S → S)
      (laws : (l : List (Implication S)) (q : S) → Least 𝓢 (Closed 𝓢 l) q (cl l q)) where
    -- where what follows from l' follows from l, the sets closed under l are closed under l'
    pub carry : (l l' : List (Implication S)) → All (Over 𝓢 top) l'
        → ((x y : S) → x ⊑ top → y ⊑ top → y ⊑ cl (B ++ l') x → y ⊑ cl (B ++ l) x) → (q : S) → Model 𝓢 (Background 𝓢 top B) l q → Closed 𝓢 l' q
    carry l l' over same q k y m h =
        ⊑_trans (same y.premise y.conclusion (over y m).premise (over y m).conclusion (all_drop B l' (at l').member y m (at l').above))
        ((at l).least q (all_append B l k.base.closed k.closed) h)
      where
        at : (t : List (Implication S)) → Least 𝓢 (Closed 𝓢 (B ++ t)) y.premise (cl (B ++ t) y.premise)
        at t = laws (B ++ t) y.premise

    pub minimal-list : (l l' : List (Implication S)) → Canonical 𝓢 (Background 𝓢 top B) l → All (Over 𝓢 top) l'
        → ((x y : S) → x ⊑ top → y ⊑ top → (y ⊑ cl (B ++ l) x) ↔ (y ⊑ cl (B ++ l') x)) → length l ≤ length l'
    minimal-list l l' c over same = minimal (Background 𝓢 top B) (background-meet 𝓢 top B) l l' c
        (carry l l' over (λ x y i j. (same x y i j).1)) (carry l' l (canonical-over c) (λ x y i j. (same x y i j).0))
