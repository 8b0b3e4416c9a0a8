-- What the view of an opened table holds and answers (01, "The table file"): what is answered when a file is opened, the layout of its
-- view, and the names of its objects and attributes.
use Rattle.std.specs.Prelude.{◌≡◌, List, ℕ, Result}
use Rattle.std.specs.Borrow.{Bor}
use Rattle.session.specs.declared.Refusal.{Refusal}
use Rattle.answer_words.specs.declared.Answer.{Answer as Coded}
use Rattle.table_layout.specs.Layout.{layout, opened_of}
use Rattle.table_layout.specs.declared.Layout.{Layout}
use Rattle.name_spans.specs.Spans.{object_span, attribute_span}
use Rattle.table_names.specs.Names.{Named}
use Rattle.coded_tables.specs.Tables.{code_of_opened, layout_after}
use Rattle.opened_table.specs.declared.Table.{Table}

-- the layout of no file
abbrev pub no_layout : Layout
no_layout = layout 0 0 0 0 0

-- the answer, and the layout of the view: that of no file where the file is refused
abbrev pub Opens : Result Layout Refusal → Coded → Layout → Type 0
Opens o answer l = (answer ≡ code_of_opened o) × (l ≡ layout_after o no_layout)

-- the answer, and the view, which is of that file
abbrev pub OpensView : Bor (List ℕ) → Coded → Table → Type 0
OpensView file answer t = Opens (opened_of file.now) answer t.layout × (t.file ≡ file)

-- a name by its number, or the refusal
abbrev pub ObjectNamed : Table → ℕ → Result (Bor (List ℕ)) Refusal → Type 0
ObjectNamed t k answer = Named (object_span t.file.now t.layout k) t.file.now answer

abbrev pub AttributeNamed : Table → ℕ → Result (Bor (List ℕ)) Refusal → Type 0
AttributeNamed t k answer = Named (attribute_span t.file.now t.layout k) t.file.now answer
