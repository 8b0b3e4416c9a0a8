-- Computed cases (`cases`). Where a name stands: nowhere for a layout that is not found (`span-unfound`) and for a number past the last
-- (`span-past`), else where its line does (`span-there`).
use Rattle.std.specs.Prelude.{◌≡◌, refl, Bool, true, false, List, [], ◌∷◌, ℕ, ◌≤◌, ◌<◌, drop}
use Rattle.std.proofs.Math.Bool.{and-false}
use Rattle.std.proofs.Common.{lt-ltb, le-ltb}
use Rattle.table_lines.specs.Lines.{line_of, skipped}
use Rattle.name_spans.specs.Spans.{span, span_from}

-- computed, of the names `a` and `bc`: number 1; number 2 and a layout that is not found have none
cases : (span_from true 2 0 1 (97 ∷ 10 ∷ 98 ∷ 99 ∷ []) ≡ span 2 2)
    × (span_from true 2 0 2 (97 ∷ 10 ∷ 98 ∷ 99 ∷ []) ≡ span 0 0)
    × (span_from false 2 0 1 (97 ∷ 10 ∷ 98 ∷ 99 ∷ []) ≡ span 0 0)
unfolding skipped line_of
cases = (refl, refl, refl)

module _ (found : Bool) (count start k : ℕ) (file : List ℕ) where
  pub span-unfound : found ≡ false → span_from found count start k file ≡ span 0 0
  span-unfound e = rw e

  pub span-past : count ≤ k → span_from found count start k file ≡ span 0 0
  span-past h = rw (span_from, le-ltb k count h, and-false found)

  pub span-there : found ≡ true → k < count
      → span_from found count start k file ≡ span (skipped k file start) (line_of (drop (skipped k file start) file)).size
  span-there e h = rw (span_from, e, lt-ltb k count h)
