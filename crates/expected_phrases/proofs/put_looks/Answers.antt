-- The mistake is said for 22 alone.
use Rattle.std.proofs.Common.{sym, ap, ◌∙◌, ◌++◌}
use Rattle.text.specs.Page.{page, text}
use Rattle.text.proofs.Page.Laws.{text-on, text-end}
use Rattle.refusal_words.specs.Words.{bytes}
use Rattle.file_mistakes.specs.Mistakes.{mistake_phrase}
use Rattle.expected_phrases.proofs.Expected.Laws.{mistake-22, mistake-other}
use Rattle.expected_phrases.proofs.put_looks.Goals as goal

pub returns-then-number-eq22 : goal.returns-then-number-eq22
unfolding bytes
returns-then-number-eq22 c =
    let a = c.args in
    let p = page a.out.now a.at in
    text-on p _ _ c.put_bytes-parted.ensures c.put_mistake.ensures
    ∙ ap (λ k. text p (bytes "; " ++ mistake_phrase k)) c.looks_like.ensures
    ∙ ap (text p) (sym (mistake-22 a.file.now a.number c.if-number-eq22.true))

pub returns-else-number-eq22 : goal.returns-else-number-eq22
returns-else-number-eq22 c = text-end _ _ (mistake-other _ _ c.if-number-eq22.false)
