-- Fillings computed: marks added, known marks offered again, marks that reverse a known one, and which row of a list becomes another.
use Rattle.std.specs.Prelude.{◌≡◌, true, false, [], ◌∷◌}
use Rattle.attribute_set.specs.Sets.{meets}
use Rattle.context.specs.Objects.{object}
use Rattle.context.specs.Filling.{joined, reverses, filled_at}

pub record Cases : Type 0 where
  -- yes {0}, no {2}: with a yes to 1 and a no to 3, and with marks that are known
  pub adds : joined (object 1 4) (object 2 8) ≡ object 3 12
  pub again : joined (object 1 4) (object 1 4) ≡ object 1 4
  -- a yes that would become a no, a no that would become a yes; a known mark, and a new one, reverse nothing
  pub yes_to_no : reverses (object 1 4) (object 0 1) ≡ true
  pub no_to_yes : reverses (object 1 4) (object 4 0) ≡ true
  pub same : reverses (object 1 4) (object 1 4) ≡ false
  pub new : reverses (object 1 4) (object 2 8) ≡ false
  -- the second of three rows, the first, and a row that is not there
  pub second : filled_at 1 (object 2 0) (object 1 0 ∷ object 0 4 ∷ object 1 2 ∷ []) ≡ object 1 0 ∷ object 2 4 ∷ object 1 2 ∷ []
  pub first : filled_at 0 (object 2 0) (object 1 0 ∷ object 0 4 ∷ []) ≡ object 3 0 ∷ object 0 4 ∷ []
  pub absent : filled_at 2 (object 2 0) (object 1 0 ∷ object 0 4 ∷ []) ≡ object 1 0 ∷ object 0 4 ∷ []

pub cases : Cases
unfolding meets reverses filled_at
cases = search
