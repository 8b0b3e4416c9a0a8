-- A layout that is said to be a file's (01, "The table file": an opened table whose counts or offsets are not those that reading its
-- file finds gets 3).
use Rattle.std.specs.Prelude.{Bool, true, false, ◌&&◌, List, [], ◌∷◌, ℕ, eqb, Result, Ok, Err}
use Rattle.session.specs.declared.Refusal.{Refusal}
use Rattle.session.specs.Refusals.{refusal}
use Rattle.table_layout.specs.declared.Layout.{Layout}
use Rattle.table_layout.specs.Layout.{opened_of}

-- the counts and offsets of a layout
abbrev pub fields_of : Layout → List ℕ
fields_of l = l.objects ∷ l.attributes ∷ l.object_names ∷ l.attribute_names ∷ l.marks ∷ []

-- the same numbers, one by one
abbrev pub same_numbers : List ℕ → List ℕ → Bool
same_numbers [] [] = true
same_numbers [] (n ∷ ns) = false
same_numbers (m ∷ ms) [] = false
same_numbers (m ∷ ms) (n ∷ ns) = eqb m n && same_numbers ms ns

abbrev pub equal_layouts : Layout → Layout → Bool
equal_layouts a b = same_numbers (fields_of a) (fields_of b)

abbrev pub found_in : Result Layout Refusal → Layout → Bool
found_in (Ok x) l = equal_layouts x l
found_in (Err r) l = false

-- reading the file finds this layout
abbrev pub finds : List ℕ → Layout → Bool
finds file l = found_in (opened_of file) l

-- of an opened table: 3 where its layout is not the one that reading its file finds
abbrev pub opened_as : Layout → Result Layout Refusal → Result Layout Refusal
opened_as l (Ok x) = elim (equal_layouts x l) [ true ↦ Ok x | false ↦ Err (refusal 3 0) ]
opened_as l (Err r) = Err r
