-- The steps of an exploration keep `Explored`: the start, the move to the next set where there is nothing to ask, the
-- acceptance of an implication, and any change that leaves less possible and stays sound, as a counterexample.
use Rattle.std.specs.Prelude.{◌≡◌, refl, ◌⊎◌, List, [], ◌∷◌, ◌++◌}
use Rattle.std.proofs.Common.{inl, inr}
use mathlib.Core.List.Memᴰ
use Rattle.theory.proofs.Lists.Laws.{all_nil, all_take, all_snoc, pairwise-snoc}
use Rattle.theory.specs.Sets.{Sets}
use Rattle.theory.specs.Implications.{Implication}
use Rattle.theory.specs.Canonical.{Model, Before}
use Rattle.theory.specs.Exploration.{Next, Sound, Kept, Explored}

module _ (𝓢 : Sets) where
  infix 4 ◌⊑◌ ◌≺◌
  infixl 60 ◌∪◌
  open 𝓢 use {S, ◌⊑◌, ⊑_refl, ⊑_trans, ◌∪◌, Disjoint, ◌≺◌, ≺-trans, ≺-cases}

  module _ (Base : S → Type 0) where
    -- nothing is accepted yet, and no set of the background comes before cur
    pub start : (reach : S → S) (cur : S) → Sound 𝓢 Base [] reach → Model 𝓢 Base [] cur → ((q : S) → Model 𝓢 Base [] q → q ≺ cur → ⊥)
        → Explored 𝓢 Base reach [] cur
    start reach cur sound here first =
        record { sound = sound; kept = all_nil _; ordered = tt; here = here; done = λ q m h. absurd (first q m h) }

    later-kept : {reach : S → S} {cur nxt : S} → cur ≺ nxt → (r : Implication S) → Kept 𝓢 Base reach cur r → Kept 𝓢 Base reach nxt r
    later-kept h r k = record { base = k.base; proper = k.proper; apart = k.apart; tight = k.tight; below = ≺-trans k.below h }

    -- nothing to ask at cur: nothing beyond it is left possible
    pub move : {reach : S → S} {l : List (Implication S)} {cur nxt : S} → Explored 𝓢 Base reach l cur → reach cur ⊑ cur
        → Next 𝓢 (Model 𝓢 Base l) cur nxt → Explored 𝓢 Base reach l nxt
    move {reach} {l} {cur} {nxt} e stays n = record {
      sound = e.sound;
      kept = λ r m. later-kept n.later r (e.kept r m);
      ordered = e.ordered;
      here = n.member;
      done = λ q m h. go q m h (≺-cases q cur);
    }
      where
        go : (q : S) → Model 𝓢 Base l q → q ≺ nxt → (q ≡ cur) ⊎ ((q ≺ cur) ⊎ (cur ≺ q)) → reach q ⊑ q
        go q m h (inl i) = rw i stays
        go q m h (inr (inl i)) = e.done q m i
        go q m h (inr (inr i)) = absurd (n.gap q m i h)

    -- the implication whose premise is cur is accepted, with all that is left possible
    pub accept : {reach : S → S} {l : List (Implication S)} {cur nxt : S} (r : Implication S) → Explored 𝓢 Base reach l cur → r.premise ≡ cur
        → (r.conclusion ⊑ cur → ⊥) → Disjoint r.conclusion cur → reach cur ⊑ cur ∪ r.conclusion → Sound 𝓢 Base (l ++ (r ∷ [])) reach
        → Next 𝓢 (Model 𝓢 Base (l ++ (r ∷ []))) cur nxt → Explored 𝓢 Base reach (l ++ (r ∷ [])) nxt
    accept {reach} {l} {cur} {nxt} r e at proper apart tight sound n = record {
      sound = sound;
      kept = all_snoc l r (λ s m. later-kept n.later s (e.kept s m))
          (record { base = rw at e.here.base; proper = rw at proper; apart = rw at apart; tight = rw at tight; below = rw at n.later });
      ordered = pairwise-snoc (Before 𝓢) l r e.ordered (λ s m. record { respected = rw at (e.here.closed s m); less = rw at (e.kept s m).below });
      here = n.member;
      done = λ q m h. go q m h (≺-cases q cur);
    }
      where
        go : (q : S) → Model 𝓢 Base (l ++ (r ∷ [])) q → q ≺ nxt → (q ≡ cur) ⊎ ((q ≺ cur) ⊎ (cur ≺ q)) → reach q ⊑ q
        go q m h (inl i) = absurd (proper (rw i at (m.closed r (Memᴰ.append_right l (Memᴰ.head refl)) (rw (at, i) (⊑_refl cur)))))
        go q m h (inr (inl i)) = e.done q (record { base = m.base; closed = all_take l _ m.closed }) i
        go q m h (inr (inr i)) = absurd (n.gap q m i h)

    -- less is left possible, and still all that follows
    pub shrink : {reach reach' : S → S} {l : List (Implication S)} {cur : S} → Explored 𝓢 Base reach l cur → ((q : S) → reach' q ⊑ reach q)
        → Sound 𝓢 Base l reach' → Explored 𝓢 Base reach' l cur
    shrink e less sound = record {
      sound = sound;
      kept = λ r m. let k = e.kept r m in
          record { base = k.base; proper = k.proper; apart = k.apart; tight = ⊑_trans (less _) k.tight; below = k.below };
      ordered = e.ordered;
      here = e.here;
      done = λ q m h. ⊑_trans (less q) (e.done q m h);
    }
