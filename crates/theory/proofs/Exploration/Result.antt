-- What an exploration has accepted is a canonical list, at any moment; and where it has come to top, nothing is left to
-- ask: at every other set that is closed under background and list, nothing beyond the set is left possible.
-- `closure-model` gives the closure that the first asks for: under a background list and the accepted list together.
use Rattle.std.specs.Prelude.{◌≡◌, ◌⊎◌, List, ◌++◌}
use Rattle.std.proofs.Common.{inl, inr}
use Rattle.theory.specs.Lists.{All}
use Rattle.theory.proofs.Lists.Laws.{all_append, all_drop, all_take}
use Rattle.theory.specs.Sets.{Sets}
use Rattle.theory.specs.Implications.{Implication, Closed, Least, Over, Background}
use Rattle.theory.specs.Canonical.{Model, Entry, Canonical}
use Rattle.theory.specs.Exploration.{Explored}

module _ (𝓢 : Sets) where
  infix 4 ◌⊑◌ ◌≺◌
  infixl 60 ◌∪◌
  open 𝓢 use {S, ◌⊑◌, ⊑_trans, ⊑-antisym, ◌∪◌, ∪-least, ◌≺◌, ≺-cases, ≺-subset}

  module _ (Base : S → Type 0) where
    pub canonical : {reach : S → S} {l : List (Implication S)} {cur : S} → Explored 𝓢 Base reach l cur
        → (cl : S → S) → ((q : S) → Base q → Least 𝓢 (Model 𝓢 Base l) q (cl q)) → Canonical 𝓢 Base l
    canonical {l = l} e cl laws = record { ordered = e.ordered; entries = go }
      where
        go : All (Entry 𝓢 Base l) l
        go r m =
            let k = e.kept r m in
            let c = laws r.premise k.base in
            let inside : cl r.premise ⊑ r.premise ∪ r.conclusion = ⊑_trans (e.sound r.premise (cl r.premise) k.base c.least) k.tight in
            let same : cl r.premise ≡ r.premise ∪ r.conclusion = ⊑-antisym inside (∪-least c.above (c.member.closed r m c.above)) in
            record { base = k.base; proper = k.proper; apart = k.apart; model = rw same at c.member }

    pub finished : {reach : S → S} {l : List (Implication S)} (top : S) → ((q : S) → Base q → q ⊑ top) → Explored 𝓢 Base reach l top
        → (q : S) → Model 𝓢 Base l q → (q ≡ top → ⊥) → reach q ⊑ q
    finished {reach} top inside e q m n = go (≺-cases q top)
      where
        go : (q ≡ top) ⊎ ((q ≺ top) ⊎ (top ≺ q)) → reach q ⊑ q
        go (inl i) = absurd (n i)
        go (inr (inl i)) = e.done q m i
        go (inr (inr i)) = absurd (≺-subset (inside q m.base) i)

  pub closure-model : (top : S) (B : List (Implication S)) → All (Over 𝓢 top) B → (l : List (Implication S)) → All (Over 𝓢 top) l
      → (cl : List (Implication S) → S → S) → ((k : List (Implication S)) (q : S) → Least 𝓢 (Closed 𝓢 k) q (cl k q))
      → (q : S) → q ⊑ top → Least 𝓢 (Model 𝓢 (Background 𝓢 top B) l) q (cl (B ++ l) q)
  closure-model top B overB l over cl laws q t = record {
    above = h.above;
    member = record {
      base = record { inside = h.least top (λ r m i. (all_append B l overB over r m).conclusion) t; closed = all_take B l h.member };
      closed = all_drop B l h.member;
    };
    least = λ z m i. h.least z (all_append B l m.base.closed m.closed) i;
  }
    where
      h : Least 𝓢 (Closed 𝓢 (B ++ l)) q (cl (B ++ l) q)
      h = laws (B ++ l) q
