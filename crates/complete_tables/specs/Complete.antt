-- The first unknown mark (01, "The table file", and refusal 29): the opening of a table that has to be complete.
use Rattle.std.specs.Prelude.{true, false, List, ℕ, zero, suc, Result, Ok, Err}
use Rattle.session.specs.declared.Refusal.{Refusal}
use Rattle.session.specs.Refusals.{refusal}
use Rattle.table_lines.specs.Lines.{bytes_at, after}
use Rattle.table_bytes.specs.Bytes.{is_known}
use Rattle.line_bytes.specs.Everywhere.{everywhere}
use Rattle.table_layout.specs.Layout.{opened_of}
use Rattle.table_layout.specs.declared.Layout.{Layout}

-- of count lines of marks from an offset on, the first with an unknown mark: 29 and its offset
unfoldable pub complete_from : ℕ → Layout → List ℕ → ℕ → Result Layout Refusal
complete_from zero l file at = Ok l
complete_from (suc k) l file at =
    elim (everywhere is_known (bytes_at file at)) [ true ↦ complete_from k l file (after file at) | false ↦ Err (refusal 29 at) ]

-- a complete table: 29 comes after 21 to 28 have passed for the whole file
abbrev pub complete_of : List ℕ → Result Layout Refusal → Result Layout Refusal
complete_of file (Ok l) = complete_from l.objects l file l.marks
complete_of file (Err r) = Err r

abbrev pub opened_complete : List ℕ → Result Layout Refusal
opened_complete file = complete_of file (opened_of file)
