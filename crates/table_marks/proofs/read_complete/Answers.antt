-- A bad length is refused before the file is opened; else what the file is opened as decides.
use Rattle.std.proofs.Common.{sym, ap, ◌∙◌, length, Err}
use Rattle.table_layout.specs.Layout.{opened_of}
use Rattle.mark_reading.specs.Marks.{reading_from, words_of_rows}
use Rattle.mark_reading.proofs.Marks.Laws.{reading-bad, reading-fine}
use Rattle.complete_tables.specs.Complete.{complete_of}
use Rattle.complete_tables.proofs.Complete.Laws.{complete-layout}
use Rattle.table_marks.proofs.read_complete.Goals as goal

pub returns-then-bad_length-clause-answer : goal.returns-then-bad_length-clause-answer
returns-then-bad_length-clause-answer c =
    let a = c.args in
    ap Err c.refuse.ensures ∙ sym (reading-bad (length a.rows.now) (complete_of a.file.now (opened_of a.file.now)) (sym c.bad_length.ensures ∙ c.if-bad_length.true))

pub returns-then-bad_length-clause-written : goal.returns-then-bad_length-clause-written
returns-then-bad_length-clause-written c =
    let a = c.args in
    ap (λ o. words_of_rows o a.file.now a.rows.now) (sym (reading-bad (length a.rows.now) (complete_of a.file.now (opened_of a.file.now)) (sym c.bad_length.ensures ∙ c.if-bad_length.true)))

pub read_opened-requires : goal.read_opened-requires
read_opened-requires c l e = complete-layout _ l (sym c.open_complete.ensures ∙ e)

pub returns-clause-answer : goal.returns-clause-answer
returns-clause-answer c =
    let a = c.args in
    c.read_opened.ensures.answer ∙ ap (reading_from (length a.rows.now)) c.open_complete.ensures
    ∙ sym (reading-fine (length a.rows.now) (complete_of a.file.now (opened_of a.file.now)) (sym c.bad_length.ensures ∙ c.if-bad_length.false))

pub returns-clause-written : goal.returns-clause-written
returns-clause-written c =
    let a = c.args in
    c.read_opened.ensures.written
    ∙ ap (λ o. words_of_rows o a.file.now a.rows.now)
    (c.read_opened.ensures.answer ∙ ap (reading_from (length a.rows.now)) c.open_complete.ensures
    ∙ sym (reading-fine (length a.rows.now) (complete_of a.file.now (opened_of a.file.now)) (sym c.bad_length.ensures ∙ c.if-bad_length.false)))
