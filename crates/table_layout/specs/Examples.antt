-- Two table files: document 01's example, four rows over three properties, and one with an unknown mark.
use Rattle.std.specs.Prelude.{List, [], ◌∷◌, ℕ}

-- document 01's, a line of it to a line
abbrev pub input : List ℕ
input =
    66 ∷ 10 ∷
    10 ∷
    52 ∷ 10 ∷
    51 ∷ 10 ∷
    10 ∷
    49 ∷ 10 ∷
    50 ∷ 10 ∷
    51 ∷ 10 ∷
    52 ∷ 10 ∷
    97 ∷ 10 ∷
    98 ∷ 10 ∷
    99 ∷ 10 ∷
    88 ∷ 88 ∷ 46 ∷ 10 ∷
    46 ∷ 88 ∷ 46 ∷ 10 ∷
    46 ∷ 88 ∷ 88 ∷ 10 ∷
    46 ∷ 46 ∷ 46 ∷ 10 ∷ []

-- one row over two properties, the second mark unknown
abbrev pub unknown : List ℕ
unknown = 66 ∷ 10 ∷ 10 ∷ 49 ∷ 10 ∷ 50 ∷ 10 ∷ 10 ∷ 49 ∷ 10 ∷ 97 ∷ 10 ∷ 98 ∷ 10 ∷ 88 ∷ 63 ∷ 10 ∷ []
