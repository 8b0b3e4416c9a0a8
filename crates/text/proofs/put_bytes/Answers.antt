-- The byte read is written; what stands behind it is still to write.
use Rattle.std.proofs.Common.{rules, sym, ◌∙◌, ◌+◌, drop, drop_of_length-le, get_or}
use Rattle.std.proofs.lemmas.List.{at_drop_more}
use Rattle.text.specs.Page.{page, text}
use Rattle.text.proofs.Page.Laws.{text-step, text-end}
use Rattle.text.proofs.put_bytes.Goals as goal

pub loop-byte-preserved : goal.loop-byte-preserved
loop-byte-preserved c =
    let l = c.loop-byte in
    let bytes = c.args.bytes.now in
    let i = l.byte-index in
    text-step (page l.out l.to) (get_or bytes i 0) (drop (i + 1) bytes) c.put_byte-to.ensures
    ∙ sym (at_drop_more (text (page l.out l.to)) bytes i 0 (search rules)) ∙ l.invariant

pub returns : goal.returns
returns c =
    let l = c.loop-byte in
    text-end (page l.out l.to) _ (drop_of_length-le c.args.bytes.now {i = l.byte-index} (search rules)) ∙ l.invariant
