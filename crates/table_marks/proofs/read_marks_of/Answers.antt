-- A bad length is refused before the file is opened; else what the file is opened as decides.
use Rattle.std.proofs.Common.{sym, ap, ◌∙◌, length, Err}
use Rattle.table_layout.specs.Layout.{opened_of}
use Rattle.mark_reading.specs.Marks.{reading_from}
use Rattle.mark_reading.proofs.Marks.Laws.{reading-bad, reading-fine}
use Rattle.found_layout.specs.Found.{opened_as}
use Rattle.table_marks.proofs.read_marks_of.Goals as goal

pub returns-then-bad_length-clause-answer : goal.returns-then-bad_length-clause-answer
returns-then-bad_length-clause-answer c =
    let a = c.args in
    ap Err c.refuse.ensures ∙ sym (reading-bad (length a.rows.now) (opened_as a.layout (opened_of a.file.now)) (sym c.bad_length.ensures ∙ c.if-bad_length.true))

pub returns-clause-answer : goal.returns-clause-answer
returns-clause-answer c =
    let a = c.args in
    c.read_opened.ensures.answer ∙ ap (reading_from (length a.rows.now)) c.open_as.ensures
    ∙ sym (reading-fine (length a.rows.now) (opened_as a.layout (opened_of a.file.now)) (sym c.bad_length.ensures ∙ c.if-bad_length.false))
