-- The edges of 01's limits as computed cases (`edges`). What a line that is fine has: a count in range (`objects-fine`,
-- `attributes-fine`), so many marks (`marks_fine`).
use Rattle.std.specs.Prelude.{◌≡◌, refl, true, List, [], ◌∷◌, ℕ, ◌≤◌, ◌<◌, length, replicate, eqb}
use Rattle.std.proofs.Math.Bool.{and-eq-true_iff}
use Rattle.table_kinds.specs.declared.Kind.TheVariants.{Letter, Title, Objects, Attributes, Blank, Name, Marks}
use Rattle.line_faults.specs.Faults.{fault}
use Rattle.line_tests.proofs.Tests.Laws.{unless-fine, count-fine}
use Rattle.std.proofs.Common.{eqb-true}
use Rattle.session.specs.Limits.{most_attributes, most_objects}
use Rattle.table_bytes.specs.Bytes.{is_mark}
use Rattle.line_bytes.specs.Everywhere.{everywhere}
use Rattle.table_counts.specs.Counts.{is_count, count_of, decimal_from}

-- 01's edges, computed: the letter; 80 and 81 bytes of a title, 0, 80 and 81 of a name; 512 and 513 rows; 0, 1, 64 and 65 properties, and
-- a count line that is no count; a fifth line that is not empty; a line of two marks, and lines that are none
edges : (fault Letter (66 ∷ []) ≡ 0)
    × (fault Letter (98 ∷ []) ≡ 22)
    × (fault Letter (66 ∷ 66 ∷ []) ≡ 22)
    × (fault Title (replicate 80 88) ≡ 0)
    × (fault Title (replicate 81 88) ≡ 25)
    × (fault Objects (53 ∷ 49 ∷ 50 ∷ []) ≡ 0)
    × (fault Objects (53 ∷ 49 ∷ 51 ∷ []) ≡ 24)
    × (fault Objects (45 ∷ []) ≡ 23)
    × (fault Attributes (48 ∷ []) ≡ 24)
    × (fault Attributes (49 ∷ []) ≡ 0)
    × (fault Attributes (54 ∷ 52 ∷ []) ≡ 0)
    × (fault Attributes (54 ∷ 53 ∷ []) ≡ 24)
    × (fault Blank (32 ∷ []) ≡ 25)
    × (fault Name [] ≡ 26)
    × (fault Name (replicate 80 88) ≡ 0)
    × (fault Name (replicate 81 88) ≡ 26)
    × (fault (Marks 2) (88 ∷ 63 ∷ []) ≡ 0)
    × (fault (Marks 2) (88 ∷ []) ≡ 27)
    × (fault (Marks 2) (88 ∷ 46 ∷ 46 ∷ []) ≡ 27)
    × (fault (Marks 2) (88 ∷ 32 ∷ []) ≡ 27)
unfolding fault is_count count_of everywhere decimal_from
edges = (refl, refl, refl, refl, refl, refl, refl, refl, refl, refl, refl, refl, refl, refl, refl, refl, refl, refl, refl, refl)

-- a count line that is fine has a count in range
pub objects-fine : (bs : List ℕ) → fault Objects bs ≡ 0 → (0 ≤ count_of bs) × (count_of bs ≤ most_objects)
unfolding fault
objects-fine bs e = count-fine 0 most_objects bs e

pub attributes-fine : (bs : List ℕ) → fault Attributes bs ≡ 0 → (0 < count_of bs) × (count_of bs ≤ most_attributes)
unfolding fault
attributes-fine bs e = count-fine 1 most_attributes bs e

-- a line of n marks that is fine
pub marks_fine : (n : ℕ) (bs : List ℕ) → fault (Marks n) bs ≡ 0 → (length bs ≡ n) × (everywhere is_mark bs ≡ true)
unfolding fault
marks_fine n bs e =
    let t = (and-eq-true_iff (eqb (length bs) n) (everywhere is_mark bs)).0 (unless-fine _ 26 e) in
    (eqb-true _ _ t.0, t.1)
