-- Burmeister's layout (01, "The table file"): which lines a table file has, and what an opened table keeps. An object is 01's row, an
-- attribute its property.
use Rattle.std.specs.Prelude.{true, false, List, ◌++◌, ℕ, suc, length, replicate, ltb, Result, Ok, Err}
use Rattle.session.specs.declared.Refusal.{Refusal}
use Rattle.session.specs.Refusals.{refusal}
use Rattle.table_kinds.specs.declared.Kind.{Kind}
use Rattle.table_kinds.specs.declared.Kind.TheVariants.{Name, Marks}
use Rattle.table_layout.specs.declared.Layout.{Layout}
use Rattle.line_walk.specs.Walk.{walk}
use Rattle.table_header.specs.Header.{object_count, attribute_count, header}
use Rattle.table_walk.specs.Walk.{place_of, then_rest}

-- the most bytes of a table file
abbrev pub most_bytes : ℕ
most_bytes = 65535

-- a program reads so many bytes, one more than a file may have: a longer input gives what these give (`Laws`)
abbrev pub input_most : ℕ
input_most = suc most_bytes

-- the lines: the first five; the objects' names; the attributes' names; the lines of marks
abbrev pub to_attribute_names : List ℕ → List Kind
to_attribute_names file = header ++ replicate (object_count file) Name

abbrev pub to_marks : List ℕ → List Kind
to_marks file = to_attribute_names file ++ replicate (attribute_count file) Name

abbrev pub kinds_to_end : List ℕ → List Kind
kinds_to_end file = to_marks file ++ replicate (object_count file) (Marks (attribute_count file))

-- what an opened table keeps beside its file: the counts, and where the names of each kind and the marks begin
abbrev pub layout : ℕ → ℕ → ℕ → ℕ → ℕ → Layout
layout objects attributes objectNames attributeNames marks = record {
  objects = objects;
  attributes = attributes;
  object_names = objectNames;
  attribute_names = attributeNames;
  marks = marks;
}

unfoldable pub layout_of : List ℕ → Layout
layout_of file =
    layout (object_count file) (attribute_count file) (place_of (walk header file 0)) (place_of (walk (to_attribute_names file) file 0))
    (place_of (walk (to_marks file) file 0))

-- what is found where the walk over the file ends, or fails
abbrev pub opened_from : Layout → Result ℕ Refusal → Result Layout Refusal
opened_from l (Ok at) = Ok l
opened_from l (Err r) = Err r

-- 21 first, by the length alone; then the first line that is refused; else the table
unfoldable pub opened_of : List ℕ → Result Layout Refusal
opened_of file =
    elim (ltb most_bytes (length file)) [
      | true ↦ Err (refusal 21 most_bytes)
      | false ↦ opened_from (layout_of file) (then_rest file (walk (kinds_to_end file) file 0))
    ]
