-- The lines of a table file in order (01, refusals 21 to 28: the first failing line decides): the first line that is refused, or where
-- the lines end.
use Rattle.std.specs.Prelude.{true, false, List, [], ◌∷◌, ℕ, length, eqb, ltb, Result, Ok, Err}
use Rattle.session.specs.declared.Refusal.{Refusal}
use Rattle.session.specs.Refusals.{refusal}
use Rattle.table_lines.specs.Lines.{bytes_at, after}
use Rattle.table_kinds.specs.declared.Kind.{Kind}
use Rattle.table_kinds.specs.Kinds.{absent}
use Rattle.line_faults.specs.Faults.{fault}

-- a line exists if the file has a byte at its start
unfoldable pub line_fault : Kind → List ℕ → ℕ → ℕ
line_fault k file at = elim (ltb at (length file)) [ true ↦ fault k (bytes_at file at) | false ↦ absent k ]

-- lines in order: the first that is refused, or where they end
unfoldable pub walk : List Kind → List ℕ → ℕ → Result ℕ Refusal
walk [] file at = Ok at
walk (k ∷ ks) file at =
    elim (eqb (line_fault k file at) 0) [ true ↦ walk ks file (after file at) | false ↦ Err (refusal (line_fault k file at) at) ]
