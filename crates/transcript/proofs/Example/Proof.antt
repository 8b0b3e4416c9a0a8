-- The examples hold: they are computed.
use Rattle.std.specs.Prelude.{refl}
use Rattle.attribute_set.specs.Sets.{full, without, inside, meets}
use Rattle.attribute_set.specs.Passing.{passing}
use Rattle.implication.specs.Closure.{fire, pass, close, closure}
use Rattle.next_set.specs.Next.{fits, next_below}
use Rattle.context.specs.Places.{lowest, anywhere}
use Rattle.context.specs.Objects.{has, excludes, lacks, refutes, refutes_written, first_written, marked_twice, contradicts}
use Rattle.reach.specs.Reach.{cut, narrow, reach}
use Rattle.session.specs.Limits.{bad_length}
use Rattle.machine.specs.Checks.{standing, question_stands, first_failing, strange, outside_m, session_checks, yes_checks, test_checks, filing_checks}
use Rattle.machine.specs.Machine.{perform_step, performed, checks_of, perform, opening}
use Rattle.table_lines.specs.Lines.{line_of}
use Rattle.line_bytes.specs.Everywhere.{everywhere}
use Rattle.table_counts.specs.Counts.{decimal_from, is_count, count_of}
use Rattle.line_faults.specs.Faults.{fault}
use Rattle.line_walk.specs.Walk.{line_fault, walk}
use Rattle.table_walk.specs.Walk.{rest}
use Rattle.table_layout.specs.Layout.{layout_of, opened_of}
use Rattle.table_rows.specs.Rows.{word_of, rows_from}
use Rattle.complete_tables.specs.Complete.{complete_from}
use Rattle.text.specs.Text.{digits, set_text}
use Rattle.output_lines.specs.Lines.{list_lines}
use Rattle.transcript.specs.Output.{answered, beat, beats, output_with}
use Rattle.transcript.specs.Example.{Example}

pub example : Example
unfolding full without inside meets fire pass close closure fits next_below lowest anywhere passing has excludes lacks refutes refutes_written first_written marked_twice contradicts cut narrow reach standing question_stands first_failing bad_length strange outside_m session_checks yes_checks test_checks filing_checks perform_step performed checks_of perform opening line_of everywhere decimal_from is_count count_of fault line_fault walk rest layout_of opened_of word_of rows_from complete_from digits set_text list_lines answered beat beats output_with
example = record { whole = refl; refused = refl }
