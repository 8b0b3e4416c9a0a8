-- The first place of a list at which a test holds.
use Rattle.std.specs.Prelude.{Bool, true, false, List, [], ◌∷◌, ℕ, suc, length, ltb}

-- the lowest place at which the test holds, counted from 0; the length where it holds nowhere
unfoldable pub lowest : {A : Type 0} → (A → Bool) → List A → ℕ
lowest f [] = 0
lowest f (x ∷ l) = elim (f x) [ true ↦ 0 | false ↦ suc (lowest f l) ]

-- the test holds somewhere
unfoldable pub anywhere : {A : Type 0} → (A → Bool) → List A → Bool
anywhere f l = ltb (lowest f l) (length l)
