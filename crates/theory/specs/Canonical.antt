-- Lists of implications that are canonical relative to a background (document 004), and what makes them so.
-- The background is any family of sets, `Base`: in use, the sets inside M that are closed under the background implications.
use Rattle.std.specs.Prelude.{List}
use Rattle.theory.specs.Lists.{All, Pairwise}
use Rattle.theory.specs.Sets.{Sets}
use Rattle.theory.specs.Implications.{Implication, Respects, Closed}

module _ (𝓢 : Sets) where
  infix 4 ◌⊑◌ ◌≺◌
  infixl 60 ◌∪◌
  open 𝓢 use {S, ◌⊑◌, ◌∪◌, Disjoint, ◌≺◌}

  -- the sets of the background that are closed under the list
  pub record Model (Base : S → Type 0) (l : List (Implication S)) (q : S) : Type 0 where
    pub base : Base q
    pub closed : Closed 𝓢 l q

  -- r may stand before s: s's premise respects r, and is lectically later
  pub record Before (r s : Implication S) : Type 0 where
    pub respected : Respects 𝓢 r s.premise
    pub less : r.premise ≺ s.premise

  -- an implication of a canonical list: its premise is of the background, its conclusion is new and apart from the
  -- premise, and both together are closed under background and list
  pub record Entry (Base : S → Type 0) (l : List (Implication S)) (r : Implication S) : Type 0 where
    pub base : Base r.premise
    pub proper : r.conclusion ⊑ r.premise → ⊥
    pub apart : Disjoint r.conclusion r.premise
    pub model : Model Base l (r.premise ∪ r.conclusion)

  pub record Canonical (Base : S → Type 0) (l : List (Implication S)) : Type 0 where
    pub ordered : Pairwise Before l
    pub entries : All (Entry Base l) l
