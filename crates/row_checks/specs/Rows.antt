-- Checks 1 to 5 of document 01 for rows that are lent without a session: the number of attributes, the length of the row words, the rows
-- in use, an attribute outside M, an attribute marked both ways (01, "Refusals in checking order"; 02, requests 2/13 and 3/13).
use Rattle.std.specs.Prelude.{◌≡◌, not, ◌||◌, List, [], ◌∷◌, ℕ, ◌/◌, length, eqb, ltb, Result}
use Rattle.session.specs.declared.Refusal.{Refusal}
use Rattle.session.specs.Limits.{most_attributes, most_objects, bad_length}
use Rattle.attribute_set.specs.Sets.{inside, full}
use Rattle.context.specs.Places.{lowest, anywhere}
use Rattle.context.specs.Objects.{objects_of, marked_twice}
use Rattle.machine.specs.Checks.{Check, check, first_failing, strange_object}
use Rattle.size_checks.specs.Verdicts.{verdict_of}
pub mod Places

-- n attributes, so many rows in use, and the row words
unfoldable pub row_checks : ℕ → ℕ → List ℕ → List Check
row_checks n used words =
    check 1 (eqb n 0 || ltb most_attributes n) 0
    ∷ check 2 (bad_length most_objects (length words)) 0
    ∷ check 3 (ltb (length words / 2) used) 0
    ∷ check 4 (anywhere (strange_object n) (objects_of used words)) 0
    ∷ check 5 (anywhere marked_twice (objects_of used words)) (lowest marked_twice (objects_of used words))
    ∷ []

abbrev pub RowsChecked : ℕ → ℕ → List ℕ → Result (Unit {0}) Refusal → Type 0
RowsChecked n used words v = verdict_of v ≡ first_failing (row_checks n used words)

-- the same where a set is asked about as well: 4 covers it too
unfoldable pub row_checks_with : ℕ → ℕ → List ℕ → ℕ → List Check
row_checks_with n used words asked =
    let rows = objects_of used words in
    check 1 (eqb n 0 || ltb most_attributes n) 0
    ∷ check 2 (bad_length most_objects (length words)) 0
    ∷ check 3 (ltb (length words / 2) used) 0
    ∷ check 4 (anywhere (strange_object n) rows || not (inside asked (full n))) 0
    ∷ check 5 (anywhere marked_twice rows) (lowest marked_twice rows)
    ∷ []

abbrev pub RowsCheckedWith : ℕ → ℕ → List ℕ → ℕ → Result (Unit {0}) Refusal → Type 0
RowsCheckedWith n used words asked v = verdict_of v ≡ first_failing (row_checks_with n used words asked)
