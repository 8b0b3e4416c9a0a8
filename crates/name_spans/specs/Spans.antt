-- Where the names of a table file stand in it, by number (01, "The table file", and refusal 3). An object is 01's row, an attribute its
-- property.
use Rattle.std.specs.Prelude.{Bool, true, false, ◌&&◌, List, ℕ, ltb, drop}
use Rattle.table_lines.specs.Lines.{line_of, skipped}
use Rattle.found_layout.specs.Found.{finds}
use Rattle.table_layout.specs.declared.Layout.{Layout}
use Rattle.name_spans.specs.declared.Span.{Span}

-- a part of the file
abbrev pub span : ℕ → ℕ → Span
span at size = record { at = at; size = size }

-- where the name with this number of count names stands; nowhere, with no bytes, for a number past the last and for a layout that
-- reading the file does not find
abbrev pub span_from : Bool → ℕ → ℕ → ℕ → List ℕ → Span
span_from found count start k file =
    elim (found && ltb k count) [
      | true ↦ span (skipped k file start) (line_of (drop (skipped k file start) file)).size
      | false ↦ span 0 0
    ]

-- of an object and of an attribute
abbrev pub object_span : List ℕ → Layout → ℕ → Span
object_span file l k = span_from (finds file l) l.objects l.object_names k file

abbrev pub attribute_span : List ℕ → Layout → ℕ → Span
attribute_span file l k = span_from (finds file l) l.attributes l.attribute_names k file
