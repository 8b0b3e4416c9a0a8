-- A refusal is the reader's; else what was read is written, with the names where they stand.
use Rattle.std.proofs.Common.{◌≡◌, refl, sym, ◌∙◌, List, ℕ, length, Result}
use Rattle.session.specs.declared.Refusal.{Refusal}
use Rattle.table_layout.specs.declared.Layout.{Layout}
use Rattle.table_layout.specs.Layout.{opened_of}
use Rattle.table_layout.proofs.OfLayout.Passed.{starts-inside}
use Rattle.mark_reading.specs.Marks.{reading}
use Rattle.rewritten_tables.specs.Rewriting.{no_rows}
use Rattle.rewritten_tables.proofs.Rewriting.Laws.{read_opened, rewrites-found, rewrites-refused}
use Rattle.rewritten_tables.proofs.rewrite.Goals as goal

-- what the file opens as is what was read
opens : (file : List ℕ) (x : Result Layout Refusal) → x ≡ reading (length no_rows) file → opened_of file ≡ x
opens file x e = sym (read_opened file) ∙ sym e

pub slice_bounds-names-count : goal.slice_bounds-names-count
slice_bounds-names-count c = (starts-inside c.args.file.now _ (opens c.args.file.now _ c.in-Ok.ensures.answer)).0

pub slice_bounds-names-start : goal.slice_bounds-names-start
slice_bounds-names-start c = (starts-inside c.args.file.now _ (opens c.args.file.now _ c.in-Ok.ensures.answer)).0

pub returns-in-Err : goal.returns-in-Err
returns-in-Err c =
    let a = c.args in
    rewrites-refused a.file.now a.out.now _ a.out.now _ (opens a.file.now _ c.in-Err.ensures.answer) refl refl

pub returns : goal.returns
returns c =
    let a = c.args in
    let b = c.in-Ok in
    rewrites-found a.file.now a.out.now _ _ _ c.read_marks.new.rows (opens a.file.now _ b.ensures.answer) b.ensures.written c.write_table.ensures
