-- Of a file that opens as a table, the layout of the view is the one that reading the file finds (`view-finds`), so that its names up to
-- the last are there and its marks are read as the file's. The view of a file that is refused has no names (`refused-objects`,
-- `refused-attributes`).
use Rattle.std.specs.Prelude.{◌≡◌, Bool, true, false, ◌&&◌, List, ℕ, ltb, Result, Ok, Err}
use Rattle.std.proofs.Common.{ap, ◌∙◌, arith, le-ltb}
use Rattle.std.proofs.Math.Bool.{and-false}
use Rattle.std.specs.Borrow.{Bor}
use Rattle.session.specs.declared.Refusal.{Refusal}
use Rattle.answer_words.specs.declared.Answer.{Answer as Coded}
use Rattle.table_layout.specs.Layout.{opened_of}
use Rattle.found_layout.specs.Found.{finds}
use Rattle.found_layout.proofs.Found.Laws.{finds-table}
use Rattle.table_layout.specs.declared.Layout.{Layout}
use Rattle.name_spans.specs.Spans.{object_span, attribute_span}
use Rattle.table_names.specs.Names.{name_refusal}
use Rattle.table_names.proofs.Names.Laws.{object-refused, attribute-refused}
use Rattle.opened_table.specs.declared.Table.{Table}
use Rattle.coded_tables.specs.Tables.{layout_after}
use Rattle.opened_table.specs.Views.{no_layout, OpensView}

-- the refusal of a name past the last
past : (found : Bool) (k : ℕ) → ◌≡◌ {A = ℕ} (elim (found && ltb k 0) [ true ↦ 0 | false ↦ 3 ]) 3
past found k = rw (le-ltb k 0 (omega arith), and-false found)

module _ (x : Bor (List ℕ)) (answer : Coded) (t : Table) (o : OpensView x answer t) where
  pub view-finds : (l : Layout) → opened_of x.now ≡ Ok l → (t.layout ≡ l) × (finds t.file.now t.layout ≡ true)
  view-finds l e =
      let same : t.layout ≡ l = o.0.1 ∙ ap (λ (y : Result Layout Refusal). layout_after y no_layout) e in
      (same, rw (o.1, same) ((finds-table x.now l).1 e))

  module _ (r : Refusal) (e : opened_of x.now ≡ Err r) (k : ℕ) where
    none : t.layout ≡ no_layout
    none = o.0.1 ∙ ap (λ (y : Result Layout Refusal). layout_after y no_layout) e

    pub refused-objects : name_refusal (object_span t.file.now t.layout k) ≡ 3
    refused-objects = rw none (object-refused t.file.now no_layout k ∙ past (finds t.file.now no_layout) k)

    pub refused-attributes : name_refusal (attribute_span t.file.now t.layout k) ≡ 3
    refused-attributes = rw none (attribute-refused t.file.now no_layout k ∙ past (finds t.file.now no_layout) k)
