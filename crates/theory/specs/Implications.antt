-- Implications (01: rules) between attribute sets, the sets that respect them, and closure as a relation.
-- Report 001, section 2.1; 01, "Properties, rows, rules".
use Rattle.std.specs.Prelude.{List}
use Rattle.theory.specs.Lists.{All}
use Rattle.theory.specs.Sets.{Sets}

-- an implication (01: a rule): premise, conclusion
pub record Implication (S : Type 0) : Type 0 where
  pub premise : S
  pub conclusion : S

module _ (𝓢 : Sets) where
  infix 4 ◌⊑◌
  open 𝓢 use {S, ◌⊑◌}

  -- q respects the implication: where it contains the premise it contains the conclusion
  abbrev pub Respects : Implication S → S → Type 0
  Respects r q = r.premise ⊑ q → r.conclusion ⊑ q

  -- q is closed under the implications: it respects each of them
  abbrev pub Closed : List (Implication S) → S → Type 0
  Closed l q = All (λ r. Respects r q) l

  -- c is the closure of q in a family of sets: its least member above q
  pub record Least (Γ : S → Type 0) (q c : S) : Type 0 where
    pub above : q ⊑ c
    pub member : Γ c
    pub least : (z : S) → Γ z → q ⊑ z → c ⊑ z

  -- both sides of the implication lie inside top (01: a rule over M)
  pub record Over (top : S) (r : Implication S) : Type 0 where
    pub premise : r.premise ⊑ top
    pub conclusion : r.conclusion ⊑ top

  -- the background: the sets inside top that are closed under B
  pub record Background (top : S) (B : List (Implication S)) (q : S) : Type 0 where
    pub inside : q ⊑ top
    pub closed : Closed B q
