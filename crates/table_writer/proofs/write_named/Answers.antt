-- The size that is found decides; where it fits, the text stands at the start of the output, and what was behind it is kept.
use Rattle.std.proofs.Common.{◌≡◌, ◌<◌, ◌≤◌, ◌⊎◌, inl, inr, sym, ap, subst, ◌∙◌, true, ℕ, length, Ok, Err, arith}
use Rattle.text.proofs.Page.Laws.{put_first}
use Rattle.table_layout.specs.Layout.{most_bytes}
use Rattle.table_text.specs.Table.{text_of}
use Rattle.table_writing.specs.Writing.{is_long}
use Rattle.table_writing.proofs.Writing.Laws.{long-file, long-output, short-both, long-refused, all-written, refuses}
use Rattle.table_writer.proofs.write_named.Goals as goal

long : (room size : ℕ) → (most_bytes < size) ⊎ ((size ≤ most_bytes) × (room < size)) → is_long room size ≡ true
long room size (inl h) = long-file room size h
long room size (inr h) = long-output room size h.1

pub returns-then-size-gt-BYTES : goal.returns-then-size-gt-BYTES
returns-then-size-gt-BYTES c =
    let a = c.args in
    let room = length a.out.now in
    refuses a.n a.used a.rows.now a.names.now a.out.now _ _ (ap Err c.refuse.ensures)
    (long-refused a.n a.used a.rows.now a.names.now room c.requires.0 c.requires.1
    (subst (λ k. is_long room k ≡ true) c.size_of_text-size.ensures (long room _ c.then-size-gt-BYTES.either)))

pub returns : goal.returns
returns c =
    let a = c.args in
    let room = length a.out.now in
    let text = text_of a.n a.used a.rows.now a.names.now in
    let size = c.size_of_text-size.ensures in
    let short = short-both room (length text) (omega (arith, size)) (omega (arith, size)) in
    record {
      answer = ap Ok size ∙ sym (all-written a.n a.used a.rows.now a.names.now room c.requires.0 c.requires.1 short);
      output = put_first a.out.now _ text c.put_table.result c.size_of_text-size.result c.put_table.ensures size (omega (arith, size));
    }
