-- The line ends at the byte read, or what is shown of it is written; what is left behind it is still to write.
use Rattle.std.proofs.Common.{rules, refl, sym, ap, ◌∙◌, ◌+◌, get_or, drop, drop_of_length-le}
use Rattle.std.proofs.lemmas.List.{at_drop_more}
use Rattle.text.specs.Page.{page, text}
use Rattle.text.proofs.Page.Laws.{text-on, text-end}
use Rattle.refusal_words.specs.Words.{shown, left, line_number}
use Rattle.refusal_words.proofs.Words.Laws.{line-ends, line_on, line-none}
use Rattle.refusal_words.proofs.put_line.Goals as goal

pub returns-then-line_ends : goal.returns-then-line_ends
returns-then-line_ends c =
    let l = c.loop-byte in
    let lines = c.args.lines.now in
    let i = l.byte-index in
    let e = at_drop_more (line_number l.skip) lines i 0 (search rules)
    ∙ line-ends l.skip (get_or lines i 0) (drop (i + 1) lines) (sym c.line_ends.ensures ∙ c.if-line_ends.true) in
    text-end (page l.out l.to) _ e ∙ l.invariant

pub loop-byte-preserved : goal.loop-byte-preserved
loop-byte-preserved c =
    let l = c.loop-byte in
    let lines = c.args.lines.now in
    let i = l.byte-index in
    let b = get_or lines i 0 in
    let rest = drop (i + 1) lines in
    let p = page l.out l.to in
    ap (λ k. text (page c.put_shown-to.new.out c.put_shown-to.result) (line_number k rest)) c.lines_left-skip.ensures
    ∙ text-on p (shown l.skip b) (line_number (left l.skip b) rest) c.put_shown-to.ensures refl
    ∙ ap (text p) (sym (at_drop_more (line_number l.skip) lines i 0 (search rules)
    ∙ line_on l.skip b rest (sym c.line_ends.ensures ∙ c.if-line_ends.false)))
    ∙ l.invariant

pub returns : goal.returns
returns c =
    let l = c.loop-byte in
    let e = drop_of_length-le c.args.lines.now {i = l.byte-index} (search rules) in
    text-end (page l.out l.to) _ (line-none l.skip _ e) ∙ l.invariant
