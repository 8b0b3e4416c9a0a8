-- The reach and its parts over lent words, as the contracts of the code say it.
use Rattle.std.specs.Prelude.{◌≡◌, ℕ}
use Rattle.context.specs.Objects.{objects_of}
use Rattle.context.specs.Parts.{Words, lent_force}
use Rattle.reach.specs.Reach.{narrow, reach}

-- r is what the first so many lent objects leave of x, for the set p
abbrev pub NarrowBy : Words → Words → ℕ → Words → ℕ → ℕ → ℕ → ℕ → Type 0
NarrowBy background list rules rows count p x r = r ≡ narrow (lent_force background list rules) p (objects_of count rows.entry.now) x

-- r is the reach of p among n attributes, over the first so many lent objects
abbrev pub ReachOf : Words → Words → ℕ → ℕ → Words → ℕ → ℕ → ℕ → Type 0
ReachOf background list rules n rows count p r = r ≡ reach (lent_force background list rules) n (objects_of count rows.entry.now) p
