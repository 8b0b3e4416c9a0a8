-- Names by number, as the file's own bytes (01, "The table file", and refusal 3). An object is 01's row, an attribute its property.
use Rattle.std.specs.Prelude.{◌≡◌, Bool, true, false, List, [], ℕ, eqb, take, drop, Result, Ok, Err, IfErr}
use Rattle.std.specs.Borrow.{Bor}
use Rattle.session.specs.declared.Refusal.{Refusal}
use Rattle.session.specs.Refusals.{refusal}
use Rattle.table_layout.specs.declared.Layout.{Layout}
use Rattle.name_spans.specs.declared.Span.{Span}
use Rattle.name_spans.specs.Spans.{span_from, object_span, attribute_span}

-- the bytes of a part of the file
abbrev pub bytes_of : List ℕ → Span → List ℕ
bytes_of file s = take s.size (drop s.at file)

-- the bytes where a name stands: the name; no bytes, which no name has, where there is no such name (01: 3)
abbrev pub name_from : Bool → ℕ → ℕ → ℕ → List ℕ → List ℕ
name_from found count start k file = bytes_of file (span_from found count start k file)

-- of an object and of an attribute
abbrev pub object_name : List ℕ → Layout → ℕ → List ℕ
object_name file l k = bytes_of file (object_span file l k)

abbrev pub attribute_name : List ℕ → Layout → ℕ → List ℕ
attribute_name file l k = bytes_of file (attribute_span file l k)

-- the number of the refusal: 3 where there is no such name, else 0
abbrev pub name_refusal : Span → ℕ
name_refusal s = elim (eqb s.size 0) [ true ↦ 3 | false ↦ 0 ]

-- the bytes of an answer, none on a refusal, and the number of its refusal, 0 of a name
abbrev pub bytes_answered : Result (Bor (List ℕ)) Refusal → List ℕ
bytes_answered (Ok name) = name.now
bytes_answered (Err r) = []

abbrev pub number_answered : Result (Bor (List ℕ)) Refusal → ℕ
number_answered (Ok name) = 0
number_answered (Err r) = r.number

-- what is answered for the name that stands at a part of the file: its bytes, and the number of the refusal, which is 3 at no place
abbrev pub Named : Span → List ℕ → Result (Bor (List ℕ)) Refusal → Type 0
Named s file answer =
    (bytes_answered answer ≡ bytes_of file s) × (number_answered answer ≡ name_refusal s) × IfErr answer (λ r. r ≡ refusal 3 0)
