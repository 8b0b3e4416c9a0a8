-- The set on small tables, computed: "exceeds" is strict, unknown is not yes, a premise that no row has lists nothing, and no property of
-- the premise is listed.
use Rattle.std.specs.Prelude.{◌≡◌, List, [], ◌∷◌}
use Rattle.attribute_set.specs.Sets.{inside, without}
use Rattle.attribute_set.specs.Passing.{passing}
use Rattle.context.specs.Objects.{Object, object}
use Rattle.nearly_always.specs.Nearly.{having, exceeds, nearly_always}

-- document 01's table: XX., .X., .XX, ...
abbrev pub table : List Object
table = object 3 4 ∷ object 2 5 ∷ object 6 1 ∷ object 0 7 ∷ []

-- five rows with property 0, four of them with property 1, two with property 2, which is unknown in a third
abbrev five : List Object
five = object 7 0 ∷ object 3 0 ∷ object 3 4 ∷ object 7 0 ∷ object 1 6 ∷ []

pub record Cases : Type 0 where
  -- 02's six premises at 80 per cent
  pub two : nearly_always 3 80 table 4 ≡ 2
  pub one : nearly_always 3 80 table 2 ≡ 0
  pub one_two : nearly_always 3 80 table 6 ≡ 0
  pub zero : nearly_always 3 80 table 1 ≡ 2
  pub zero_two : nearly_always 3 80 table 5 ≡ 0
  pub zero_one : nearly_always 3 80 table 3 ≡ 0
  -- four of five are 80 per cent, and do not exceed it
  pub exactly : nearly_always 3 80 five 1 ≡ 0
  pub just_above : nearly_always 3 79 five 1 ≡ 2
  -- two of five are yes, not three
  pub unknown : nearly_always 3 40 five 1 ≡ 2
  pub known : nearly_always 3 39 five 1 ≡ 6
  -- any row at all, and every row
  pub some : nearly_always 3 0 five 1 ≡ 6
  pub every : nearly_always 3 99 five 2 ≡ 1
  -- the empty premise is one that every row has
  pub empty : nearly_always 3 99 five 0 ≡ 1
  -- attributes past the n are not listed
  pub fewer : nearly_always 1 0 five 2 ≡ 1

pub cases : Cases
unfolding nearly_always passing exceeds having inside without
cases = search
