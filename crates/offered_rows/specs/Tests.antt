-- The verdicts of the checks of an offered row, in document 01's terms ("Refusals in checking order"): 9 and 10 of a test, behind its check 8, and
-- 9 and 11 of a filing, before its check 12 (02, request 6/13); 9, 33 and 11 of a filling, behind its check 32 (02, request 7/13).
use Rattle.std.specs.Prelude.{◌≡◌, not, List, [], ◌∷◌, ℕ, Result}
use Rattle.session.specs.declared.Refusal.{Refusal}
use Rattle.theory.specs.Implications.{Implication}
use Rattle.context.specs.Objects.{Object, refutes, contradicts}
use Rattle.context.specs.Filling.{joined, reverses}
use Rattle.machine.specs.Checks.{check, first_failing, bad_row}
use Rattle.size_checks.specs.Verdicts.{verdict_of}

-- of a test, where the rules rs are in force and q is the question
abbrev pub RowTested : ℕ → List (Implication ℕ) → Implication ℕ → Object → Result (Unit {0}) Refusal → Type 0
RowTested n rs q o v = verdict_of v ≡ first_failing (check 9 (bad_row n o) 0 ∷ check 10 (not (refutes rs o q)) 0 ∷ [])

-- of a filing
abbrev pub RowFits : ℕ → List (Implication ℕ) → Object → Result (Unit {0}) Refusal → Type 0
RowFits n rs o v = verdict_of v ≡ first_failing (check 9 (bad_row n o) 0 ∷ check 11 (contradicts rs o) 0 ∷ [])

-- of a filling of the row o with the marks of m
abbrev pub MarksFit : ℕ → List (Implication ℕ) → Object → Object → Result (Unit {0}) Refusal → Type 0
MarksFit n rs o m v =
    verdict_of v ≡ first_failing (check 9 (bad_row n m) 0 ∷ check 33 (reverses o m) 0 ∷ check 11 (contradicts rs (joined o m)) 0 ∷ [])
