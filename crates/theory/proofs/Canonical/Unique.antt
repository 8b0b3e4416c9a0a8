-- Two canonical lists with the same consequences relative to the background are the same list.
-- `unique` says it for any background, `unique-list` for a background list and a closure operator. The first implications
-- agree, for the earliest premise and its closure are the same; they then join the background, and the rest follows alike.
use Rattle.std.specs.Prelude.{◌≡◌, refl, ◌⊎◌, ◌↔◌, List, [], ◌∷◌, ◌++◌}
use Rattle.std.proofs.Common.{sym, ap₂, subst, inl, inr}
use mathlib.Core.List.Memᴰ
use Rattle.theory.specs.Lists.{All}
use Rattle.theory.proofs.Lists.Laws.{all_nil, all_cons}
use Rattle.theory.specs.Sets.{Sets}
use Rattle.theory.specs.Implications.{Implication, Respects, Closed, Least, Background}
use Rattle.theory.specs.Canonical.{Model, Entry, Canonical}
use Rattle.theory.proofs.Canonical.Minimal.{canonical-over, carry}

module _ (𝓢 : Sets) where
  infix 4 ◌⊑◌ ◌≺◌
  open 𝓢 use {S, ◌⊑◌, ⊑_refl, ⊑-antisym, ∪-left, Disjoint, strip, ◌≺◌, ≺-trans, ≺-cases, ≺-subset}

  -- the first implication may join the background, and leave it
  shift : {Base : S → Type 0} {r : Implication S} {l : List (Implication S)} {q : S} → Model 𝓢 Base (r ∷ l) q → Model 𝓢 (λ x. Base x × Respects 𝓢 r x) l q
  shift {r = r} m = record { base = (m.base, m.closed r (Memᴰ.head refl)); closed = λ x k. m.closed x (Memᴰ.tail k) }

  unshift : {Base : S → Type 0} {r : Implication S} {l : List (Implication S)} {q : S} → Model 𝓢 (λ x. Base x × Respects 𝓢 r x) l q → Model 𝓢 Base (r ∷ l) q
  unshift m = record { base = m.base.0; closed = all_cons m.base.1 m.closed }

  canonical-tail : {Base : S → Type 0} {r : Implication S} {l : List (Implication S)} → Canonical 𝓢 Base (r ∷ l) → Canonical 𝓢 (λ x. Base x × Respects 𝓢 r x) l
  canonical-tail {Base} {r} {l} c = record { ordered = c.ordered.1; entries = go }
    where
      go : All (Entry 𝓢 (λ x. Base x × Respects 𝓢 r x) l) l
      go t m = let e = c.entries t (Memᴰ.tail m) in
          record { base = (e.base, (c.ordered.0 t m).respected); proper = e.proper; apart = e.apart; model = shift e.model }

  -- the first premise of one list is not earlier than the other's
  not_earlier : {Base : S → Type 0} {r s : Implication S} {l l' : List (Implication S)} → Canonical 𝓢 Base (r ∷ l) → Canonical 𝓢 Base (s ∷ l')
      → ((q : S) → Model 𝓢 Base (s ∷ l') q → Model 𝓢 Base (r ∷ l) q) → r.premise ≺ s.premise → ⊥
  not_earlier {r = r} {s} {l' = l'} c c' from lt =
      let e = c.entries r (Memᴰ.head refl) in
      e.proper ((from r.premise (record { base = e.base; closed = below })).closed r (Memᴰ.head refl) (⊑_refl _))
    where
      below : Closed 𝓢 (s ∷ l') r.premise
      below = all_cons (λ h. absurd (≺-subset h lt)) (λ t m h. absurd (≺-subset h (≺-trans lt (c'.ordered.0 t m).less)))

  conclusion-inside : {Base : S → Type 0} {r s : Implication S} {l l' : List (Implication S)} → Canonical 𝓢 Base (r ∷ l) → Canonical 𝓢 Base (s ∷ l')
      → ((q : S) → Model 𝓢 Base (s ∷ l') q → Model 𝓢 Base (r ∷ l) q) → r.premise ≡ s.premise → r.conclusion ⊑ s.conclusion
  conclusion-inside {r = r} {s} c c' from e =
      strip (subst (λ x. Disjoint r.conclusion x) e (c.entries r (Memᴰ.head refl)).apart)
      ((from _ (c'.entries s (Memᴰ.head refl)).model).closed r (Memᴰ.head refl) (rw e (∪-left _ _)))

  same_first : {Base : S → Type 0} {r s : Implication S} {l l' : List (Implication S)} → Canonical 𝓢 Base (r ∷ l) → Canonical 𝓢 Base (s ∷ l')
      → ((q : S) → Model 𝓢 Base (r ∷ l) q → Model 𝓢 Base (s ∷ l') q) → ((q : S) → Model 𝓢 Base (s ∷ l') q → Model 𝓢 Base (r ∷ l) q) → r ≡ s
  same_first {r = r} {s} c c' to from = go (≺-cases r.premise s.premise)
    where
      go : (r.premise ≡ s.premise) ⊎ ((r.premise ≺ s.premise) ⊎ (s.premise ≺ r.premise)) → r ≡ s
      go (inl e) =
          let f = ⊑-antisym (conclusion-inside c c' from e) (conclusion-inside c' c to (sym e)) in
          λ i. record { premise = e i; conclusion = f i }
      go (inr (inl h)) = absurd (not_earlier c c' from h)
      go (inr (inr h)) = absurd (not_earlier c' c to h)

  none_first : {Base : S → Type 0} {r : Implication S} {l : List (Implication S)} → Canonical 𝓢 Base (r ∷ l)
      → ((q : S) → Model 𝓢 Base [] q → Model 𝓢 Base (r ∷ l) q) → ⊥
  none_first {r = r} c from = let e = c.entries r (Memᴰ.head refl) in
      e.proper ((from r.premise (record { base = e.base; closed = all_nil _ })).closed r (Memᴰ.head refl) (⊑_refl _))

  pub unique : (Base : S → Type 0) (l l' : List (Implication S)) → Canonical 𝓢 Base l → Canonical 𝓢 Base l'
      → ((q : S) → Model 𝓢 Base l q → Model 𝓢 Base l' q) → ((q : S) → Model 𝓢 Base l' q → Model 𝓢 Base l q) → l ≡ l'
  unique Base [] [] c c' to from = refl
  unique Base [] (s ∷ l') c c' to from = absurd (none_first c' to)
  unique Base (r ∷ l) [] c c' to from = absurd (none_first c from)
  unique Base (r ∷ l) (s ∷ l') c c' to from =
      let e = same_first c c' to from in
      ap₂ ◌∷◌ e (unique (λ x. Base x × Respects 𝓢 r x) l l' (canonical-tail c) (canonical-tail (rw e c'))
      (λ q m. shift (rw e (to q (unshift m)))) (λ q m. shift (from q (rw (← e) (unshift m)))))

  module _ (top : S) (B : List (Implication S)) (cl : List (Implication S) → S → S)
      (laws : (l : List (Implication S)) (q : S) → Least 𝓢 (Closed 𝓢 l) q (cl l q)) where
    pub unique-list : (l l' : List (Implication S)) → Canonical 𝓢 (Background 𝓢 top B) l → Canonical 𝓢 (Background 𝓢 top B) l'
        → ((x y : S) → x ⊑ top → y ⊑ top → (y ⊑ cl (B ++ l) x) ↔ (y ⊑ cl (B ++ l') x)) → l ≡ l'
    unique-list l l' c c' same = unique (Background 𝓢 top B) l l' c c'
        (λ q m. record { base = m.base; closed = carry 𝓢 top B cl laws l l' (canonical-over 𝓢 c') (λ x y i j. (same x y i j).1) q m })
        (λ q m. record { base = m.base; closed = carry 𝓢 top B cl laws l' l (canonical-over 𝓢 c) (λ x y i j. (same x y i j).0) q m })
