-- The page so far, with what is left of the line, makes the page with the whole line.
use Rattle.std.specs.Prelude.{◌≡◌, drop}
use Rattle.text.specs.Page.{page, text}
use Rattle.refusal_words.specs.Words.{line_number}
use Rattle.refusal_words.proofs.put_line.Given as goal

abbrev pub invariant-loop-byte : goal.invariant-loop-byte
invariant-loop-byte l =
    text (page l.out l.to) (line_number l.skip (drop l.byte-index l.lines)) ≡ text (page l.fn.out l.fn.at) (line_number l.fn.number l.fn.lines)
