-- The lines are the phrases.
use Rattle.std.proofs.Common.{ap, ◌∙◌}
use Rattle.text.specs.Page.{page, text}
use Rattle.refusal_words.specs.Words.{bytes, joined, line_number}
use Rattle.expected_phrases.specs.Expected.{phrases}
use Rattle.expected_phrases.proofs.put_expected.Goals as goal

pub returns : goal.returns
unfolding bytes joined
returns c =
    let a = c.args in
    c.put_line.ensures ∙ ap (λ k. text (page a.out.now a.at) (line_number k phrases)) c.saturating_sub.ensures
