-- The words that an interview of a table file is lent, and the table that it is of (01, "The program").
use Rattle.std.specs.Prelude.{◌≡◌, List, ℕ, ◌*◌, ◌≤◌, min, length, Result, Ok}
use Rattle.session.specs.declared.Refusal.{Refusal}
use Rattle.context.specs.Objects.{objects_of}
use Rattle.context.specs.Tables.{Table}
use Rattle.session.specs.Limits.{most_objects, most_implications}
use Rattle.machine.specs.Checks.{Lent}
use Rattle.machine.specs.Calls.{Words}
use Rattle.table_layout.specs.Layout.{opened_of}
use Rattle.complete_tables.specs.Complete.{complete_of}
use Rattle.table_layout.specs.declared.Layout.{Layout}
use Rattle.transcript.specs.Output.{table_of}

-- ---- places

-- so many words lent for rows and list, and no background
abbrev pub lent_of : ℕ → ℕ → Lent
lent_of rows list = record { rows = rows; list = list; background = 0 }

abbrev pub lent : Words → Words → Lent
lent rows list = lent_of (length rows.entry.now) (length list.entry.now)

-- places for so many rows and rules, of those of a session
abbrev pub places_for : ℕ → ℕ → Lent
places_for rows rules = lent_of (min rows most_objects * 2) (min rules most_implications * 2)

-- ---- the table

-- the words hold the rows of a complete table over n attributes
pub record Holds (n objects : ℕ) (table : List ℕ) : Type 0 where
  pub complete : Table n (objects_of objects table)
  pub in_table : objects * 2 ≤ length table

-- the complete reading of the file, with the rows of the table in the words where it finds one
pub record ReadComplete (file words : List ℕ) (r : Result Layout Refusal) : Type 0 where
  pub answer : r ≡ complete_of file (opened_of file)
  pub rows : (l : Layout) → r ≡ Ok l → objects_of l.objects words ≡ table_of file l
