-- When a line of a table file is refused as one of its kind, and with which number (01, "The table file"). An object is 01's row, an
-- attribute its property.
use Rattle.std.specs.Prelude.{List, ℕ, length, eqb, leb}
use Rattle.session.specs.Limits.{most_attributes, most_objects}
use Rattle.line_tests.specs.Tests.{most_name_bytes, refuse_unless, count_fault, is_letter, is_name, is_marks}
use Rattle.table_kinds.specs.declared.Kind.{Kind}
use Rattle.table_kinds.specs.declared.Kind.TheVariants.{Letter, Title, Objects, Attributes, Blank, Name, Marks}

-- the number with which a line of the kind is refused; 0 where it is fine
unfoldable pub fault : Kind → List ℕ → ℕ
fault Letter bs = refuse_unless (is_letter bs) 22
fault Title bs = refuse_unless (leb (length bs) most_name_bytes) 25
fault Objects bs = count_fault 0 most_objects bs
fault Attributes bs = count_fault 1 most_attributes bs
fault Blank bs = refuse_unless (eqb (length bs) 0) 25
fault Name bs = refuse_unless (is_name bs) 26
fault (Marks n) bs = refuse_unless (is_marks n bs) 27
