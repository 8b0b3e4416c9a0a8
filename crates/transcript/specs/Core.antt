-- One beat of the interview below the checks, by written marks: it costs one reach by written marks and one next set. Of all refusals
-- only the last is left, a full list or full rows (01: 12). `Beats` proves that an interview of a complete table, by implied marks, which
-- passes every other check, has these beats, `Kept` that it stays one, `Conclusion` how it ends, `Rows` that rows do not run out where
-- there are places for all of the table, and `Size` how much it writes.
use Rattle.std.specs.Prelude.{true, false, List, [], ◌++◌, ℕ, suc, ◌+◌, ◌/◌, min, length, get_or, eqb, ltb, leb}
use Rattle.theory.specs.Implications.{Implication}
use Rattle.attribute_set.specs.Sets.{full}
use Rattle.context.specs.Objects.{Object, object, first_written}
use Rattle.session.specs.declared.Refusal.{Refusal}
use Rattle.session.specs.Refusals.{refusal}
use Rattle.machine.specs.Checks.{State}
use Rattle.machine.specs.Machine.{after_move, agreeing, after_filing}
use Rattle.written_machine.specs.Reading.{written_reach, written_question}
use Rattle.output_lines.specs.Lines.{yes_line, no_line}
use Rattle.closing_lines.specs.Closing.{refusal_line}
use Rattle.transcript.specs.Output.{Beat, more, last, closing}
pub mod Along

-- one change of the current set more; a word holds as many as there are sets, so that the limit is never met
abbrev pub counted : ℕ → ℕ
counted changes = min (suc changes) 18446744073709551615

-- no place is left
abbrev pub no_place_refusal : Refusal
no_place_refusal = refusal 12 0

-- no, with a row of the table and its number
unfoldable pub core_no : State → ℕ → Implication ℕ → ℕ → Object → Beat
core_no s changes q number o =
    elim (leb (s.lent.rows / 2) (length s.rows)) [
      | true ↦ last (no_line s.n q number ++ refusal_line no_place_refusal)
      | false ↦ more (no_line s.n q number) (after_filing s o) changes
    ]

-- yes
unfoldable pub core_yes : State → ℕ → Implication ℕ → Beat
core_yes s changes q =
    elim (leb (s.lent.list / 2) (length s.list)) [
      | true ↦ last (yes_line s.n q ++ refusal_line no_place_refusal)
      | false ↦ more (yes_line s.n q) (agreeing s q) (counted changes)
    ]

unfoldable pub core_reply : List Object → State → ℕ → Implication ℕ → Beat
core_reply table s changes q =
    elim (ltb (first_written table q) (length table)) [
      | true ↦ core_no s changes q (first_written table q + 1) (get_or table (first_written table q) (object 0 0))
      | false ↦ core_yes s changes q
    ]

unfoldable pub core_beat : List Object → State → ℕ → Beat
core_beat table s changes =
    elim (eqb s.current (full s.n)) [
      | true ↦ last (closing s changes)
      | false ↦ elim (eqb (written_reach s) s.current) [
        | true ↦ more [] (after_move s) (counted changes)
        | false ↦ core_reply table s changes (written_question s)
      ]
    ]
