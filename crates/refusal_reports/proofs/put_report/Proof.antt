-- The line, what was expected, the end of the line, the sentence.
use mathlib.Core.Path.{ap, ◌∙◌}
use borrow.Author.Rules.{rules}
use Rattle.text.specs.Page.{page, text}
use Rattle.text.proofs.Page.Laws.{text-on}
use Rattle.refusal_reports.specs.Reports.{line_text, report}
use Rattle.refusal_reports.proofs.put_report.Statement.{statement}
use Rattle.refusal_reports.proofs.put_report.Tie as tie

returns : tie.Need-returns
unfolding report
returns c =
    let a = c.args in
    let p = page a.out.now a.at in
    text-on p _ _ (c.put_line_number-numbered.ensures ∙ ap (λ k. text p (line_text k)) c.line_number.ensures) (
    text-on _ _ _ c.put_expectation-expected.ensures (text-on _ _ _ c.put_byte-ended.ensures c.put_sentence_line.ensures))

pub put_report_spec : {M : Type 1} → statement M
put_report_spec =
    tie.close
    (tie.spec
    (λ c κs. search rules)
    (λ c κs. search rules)
    (λ c κs. search rules)
    (λ c κs. search rules)
    (λ c κs. search rules)
    (λ c. search rules)
    returns)
