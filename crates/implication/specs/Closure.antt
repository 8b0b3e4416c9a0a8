-- Implications in a flat slice, and the closure of a set under implications (01, "Properties, rows, rules": the smallest
-- superset that contains the conclusion of each rule whose premise it contains; report 001, section 2.1).
-- `Laws` proves that `closure` is that set for every list and every set.
use Rattle.std.specs.Prelude.{Bool, true, false, List, [], ◌∷◌, ◌++◌, ℕ, zero, suc, ◌/◌, length, eqb}
use Rattle.std.specs.Int.Bits.{bit_or}
use Rattle.theory.specs.Implications.{Implication}
use Rattle.attribute_set.specs.Sets.{inside}
use Rattle.implication.specs.Pairs.{pairs}

-- an implication (01: a rule) between words: premise, conclusion
abbrev pub implication : ℕ → ℕ → Implication ℕ
implication p c = record { premise = p; conclusion = c }

-- the first n implications of a flat slice
abbrev pub implications_of : ℕ → List ℕ → List (Implication ℕ)
implications_of n ws = pairs implication n ws

-- all whole implications of a flat slice
abbrev pub all_implications : List ℕ → List (Implication ℕ)
all_implications ws = implications_of (length ws / 2) ws

-- the implications in force (01: rules in force): the background slice, all of it in use, then the first n of the list
abbrev pub in_force : List ℕ → List ℕ → ℕ → List (Implication ℕ)
in_force background list n = all_implications background ++ implications_of n list

-- and one more, from p to c
abbrev pub in_force_with : List ℕ → List ℕ → ℕ → ℕ → ℕ → List (Implication ℕ)
in_force_with background list n p c = in_force background list n ++ (implication p c ∷ [])

-- s with the conclusion, where it contains the premise
unfoldable pub fire : Implication ℕ → ℕ → ℕ
fire r s = elim (inside r.premise s) [ true ↦ bit_or s r.conclusion | false ↦ s ]

-- each implication once, in order
unfoldable pub pass : List (Implication ℕ) → ℕ → ℕ
pass [] s = s
pass (r ∷ rs) s = pass rs (fire r s)

-- passes until one changes nothing, at most k of them
unfoldable pub close : ℕ → List (Implication ℕ) → ℕ → ℕ
close zero rs s = s
close (suc k) rs s = elim (eqb (pass rs s) s) [ true ↦ s | false ↦ close k rs (pass rs s) ]

-- a pass that changes the set brings the whole conclusion of one implication more: as many passes as there are are enough
unfoldable pub closure : List (Implication ℕ) → ℕ → ℕ
closure rs s = close (length rs) rs s

-- r follows from rs: its conclusion lies in the closure of its premise
unfoldable pub follows : List (Implication ℕ) → Implication ℕ → Bool
follows rs r = inside r.conclusion (closure rs r.premise)
