-- The number of marks is said for 27 alone.
use Rattle.std.proofs.Common.{sym, ap, ◌∙◌}
use Rattle.text.specs.Text.{number_text}
use Rattle.text.specs.Page.{page, text}
use Rattle.text.proofs.Page.Laws.{text-on, text-end}
use Rattle.expected_phrases.proofs.Expected.Laws.{marks-27, marks-other}
use Rattle.expected_phrases.proofs.put_marks.Goals as goal

pub returns-then-number-eq27 : goal.returns-then-number-eq27
returns-then-number-eq27 c =
    let a = c.args in
    let p = page a.out.now a.at in
    text-on p _ _ (c.put_number-counted.ensures ∙ ap (λ k. text p (number_text k)) c.attribute_count.ensures) c.put_byte.ensures
    ∙ ap (text p) (sym (marks-27 a.file.now a.number c.if-number-eq27.true))

pub returns-else-number-eq27 : goal.returns-else-number-eq27
returns-else-number-eq27 c = text-end _ _ (marks-other _ _ c.if-number-eq27.false)
