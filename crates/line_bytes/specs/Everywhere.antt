-- A test of all the bytes of a line.
use Rattle.std.specs.Prelude.{Bool, true, false, List, [], ◌∷◌, ℕ}

unfoldable pub everywhere : (ℕ → Bool) → List ℕ → Bool
everywhere f [] = true
everywhere f (b ∷ bs) = elim (f b) [ true ↦ everywhere f bs | false ↦ false ]
