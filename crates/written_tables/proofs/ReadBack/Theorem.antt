-- The reader accepts every text that was written, and finds in it exactly the counts, the rows in use, word for word, and the lent names,
-- byte for byte (`read_back`; 02, request 2/13).
use Rattle.std.specs.Prelude.{◌≡◌, List, ℕ, length, take, drop, Ok}
use Rattle.std.proofs.Common.{ap, ◌∙◌, arith, take_at}
use Rattle.table_layout.specs.declared.Layout.{Layout}
use Rattle.table_text.specs.Table.{text_of}
use Rattle.table_writing.specs.Writing.{WritesFrom}
use Rattle.table_writing.proofs.Writing.Laws.{bytes-checked}
use Rattle.written_tables.specs.ReadBack.{FindsTable}
use Rattle.written_tables.proofs.Tables.Laws.{text-read}

pub read_back : (n used : ℕ) (words names out out' : List ℕ) (size : ℕ) → WritesFrom n used words names out (Ok size) out'
    → (l : Layout) × FindsTable (take size out') n used words names l
read_back n used words names out out' size w =
    let text = text_of n used words names in
    let c = bytes-checked n used words names (length out) size w.answer in
    let t = text-read n used words names c.rows c.named (omega (arith, c.whole, c.short)) in
    let e : take size out' ≡ text = ap (take size) w.output ∙ take_at text (drop size out) size c.whole in
    (t.table, rw e t.found)
