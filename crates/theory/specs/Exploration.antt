-- The walk of an attribute exploration and its invariant (report 001, section 2.3; 01, "The interview").
-- `reach q` is the largest conclusion that nothing known refutes for the premise q; all that is asked of it is that it
-- only shrinks and stays sound, so that more objects, filled marks or implied marks need no other theory.
use Rattle.std.specs.Prelude.{List}
use Rattle.theory.specs.Lists.{All, Pairwise}
use Rattle.theory.specs.Sets.{Sets}
use Rattle.theory.specs.Implications.{Implication}
use Rattle.theory.specs.Canonical.{Model, Before}

module _ (𝓢 : Sets) where
  infix 4 ◌⊑◌ ◌≺◌
  infixl 60 ◌∪◌
  open 𝓢 use {S, ◌⊑◌, ◌∪◌, Disjoint, ◌≺◌}

  -- nxt is the next set of the family after cur
  pub record Next (Γ : S → Type 0) (cur nxt : S) : Type 0 where
    pub later : cur ≺ nxt
    pub member : Γ nxt
    pub gap : (q : S) → Γ q → cur ≺ q → q ≺ nxt → ⊥

  module _ (Base : S → Type 0) where
    -- what follows from a set of the background is never refuted: every member of the family above q contains x
    abbrev pub Sound : List (Implication S) → (S → S) → Type 0
    Sound l reach = (q x : S) → Base q → ((z : S) → Model 𝓢 Base l z → q ⊑ z → x ⊑ z) → x ⊑ reach q

    -- an accepted implication, seen from cur: its premise was passed, and nothing beyond its conclusion is left possible
    pub record Kept (reach : S → S) (cur : S) (r : Implication S) : Type 0 where
      pub base : Base r.premise
      pub proper : r.conclusion ⊑ r.premise → ⊥
      pub apart : Disjoint r.conclusion r.premise
      pub tight : reach r.premise ⊑ r.premise ∪ r.conclusion
      pub below : r.premise ≺ cur

    -- the invariant: at cur, with the list l accepted
    pub record Explored (reach : S → S) (l : List (Implication S)) (cur : S) : Type 0 where
      pub sound : Sound l reach
      pub kept : All (Kept reach cur) l
      pub ordered : Pairwise (Before 𝓢) l
      pub here : Model 𝓢 Base l cur
      pub done : (q : S) → Model 𝓢 Base l q → q ≺ cur → reach q ⊑ q
