-- Attribute sets as the theory sees them: inclusion, meet, union and a linear order, and nothing of words or bits.
-- 01 says "set of properties" and "order of sets"; report 001, section 2.1, says lectic order.
use Rattle.std.specs.Prelude.{◌≡◌, ◌⊎◌}

pub record Sets : Type 1 where
  infix 4 ◌⊑◌ ◌≺◌
  infixl 60 ◌∩◌ ◌∪◌
  pub S : Type 0
  -- inclusion
  pub ◌⊑◌ : S → S → Type 0
  pub ⊑-dec : (a b : S) → Dec (a ⊑ b)
  pub ⊑_refl : (a : S) → a ⊑ a
  pub ⊑_trans : {a b c : S} → a ⊑ b → b ⊑ c → a ⊑ c
  pub ⊑-antisym : {a b : S} → a ⊑ b → b ⊑ a → a ≡ b
  pub ◌∩◌ : S → S → S
  pub ∩-left : (a b : S) → a ∩ b ⊑ a
  pub ∩-right : (a b : S) → a ∩ b ⊑ b
  pub ∩-great : {a b c : S} → c ⊑ a → c ⊑ b → c ⊑ a ∩ b
  pub ◌∪◌ : S → S → S
  pub ∪-left : (a b : S) → a ⊑ a ∪ b
  pub ∪-right : (a b : S) → b ⊑ a ∪ b
  pub ∪-least : {a b c : S} → a ⊑ c → b ⊑ c → a ∪ b ⊑ c
  -- `Disjoint a b`: they share no attribute; what shares none with a and lies inside a ∪ b lies inside b
  pub Disjoint : S → S → Type 0
  pub strip : {a b c : S} → Disjoint c a → c ⊑ a ∪ b → c ⊑ b
  -- the lectic order: transitive and total, and a subset is never later
  pub ◌≺◌ : S → S → Type 0
  pub ≺-trans : {a b c : S} → a ≺ b → b ≺ c → a ≺ c
  pub ≺-cases : (a b : S) → (a ≡ b) ⊎ ((a ≺ b) ⊎ (b ≺ a))
  pub ≺-subset : {a b : S} → a ⊑ b → b ≺ a → ⊥
