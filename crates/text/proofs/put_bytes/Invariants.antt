-- The page so far, with the bytes not yet written, makes the page with all of them.
use Rattle.std.specs.Prelude.{◌≡◌, drop}
use Rattle.text.specs.Page.{page, text}
use Rattle.text.proofs.put_bytes.Given as goal

abbrev pub invariant-loop-byte : goal.invariant-loop-byte
invariant-loop-byte l = text (page l.out l.to) (drop l.byte-index l.bytes) ≡ text (page l.fn.out l.fn.at) l.fn.bytes
