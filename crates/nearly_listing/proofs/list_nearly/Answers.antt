-- The first check that fails decides; where all pass, the numbers are in range, and the set is that of the definition.
use Rattle.std.specs.Prelude.{◌≡◌, List, [], ◌∷◌, ℕ, length, Result, Ok, Err}
use Rattle.std.specs.Result.{result_and}
use Rattle.std.proofs.Common.{sym, ap, ap₂, ◌∙◌}
use Rattle.std.proofs.Math.Option.{none, some}
use Rattle.std.proofs.lemmas.Result.{err_from_is_err_and}
use Rattle.session.specs.declared.Refusal.{Refusal}
use Rattle.context.specs.Objects.{objects_of}
use Rattle.machine.specs.Checks.{first_failing}
use Rattle.size_checks.specs.Verdicts.{verdict_of}
use Rattle.session_checks.specs.Checked.{first_of}
use Rattle.session_checks.proofs.Checked.Laws.{and-first}
use Rattle.row_checks.specs.Rows.{row_checks_with}
use Rattle.nearly_always.specs.Nearly.{nearly_always, InRange}
use Rattle.nearly_listing.specs.Listing.{percent_check, list_checks, listed_by, listing}
use Rattle.nearly_listing.proofs.Listing.Laws.{list-checked, in_range}
use Rattle.nearly_listing.proofs.list_nearly.Goals as goal

-- by what checks 1 to 5 and check 31 refuse
module _ (n used : ℕ) (words : List ℕ) (premise percent : ℕ) where
  decided : {o : Result (Unit {0}) Refusal} (v w : Result (Unit {0}) Refusal) → o ≡ result_and v w → verdict_of v ≡ first_failing (row_checks_with n used words premise)
      → verdict_of w ≡ first_failing (percent_check percent ∷ []) → verdict_of o ≡ first_failing (list_checks n used words premise percent)
  decided v w h e f = ap verdict_of h ∙ and-first v w ∙ ap₂ first_of e f ∙ list-checked n used words premise percent

  refused : {r : Refusal} → some r ≡ first_failing (list_checks n used words premise percent) → Err r ≡ listing n used words premise percent
  refused = ap (λ o. listed_by o (nearly_always n percent (objects_of used words) premise))

  listed : {set : ℕ} → none ≡ first_failing (list_checks n used words premise percent)
      → (InRange n used (length words) percent → set ≡ nearly_always n percent (objects_of used words) premise) → Ok set ≡ listing n used words premise percent
  listed e right = rw (sym e, right (in_range n used words premise percent (sym e)))

pub returns-in_err-and : goal.returns-in_err-and
returns-in_err-and c =
    let a = c.args in
    let p = err_from_is_err_and c.from_residual.result c.from_residual.ensures.1 in
    rw (p.1, p.2)
    (refused a.n a.used a.rows.now a.premise a.percent
    (decided a.n a.used a.rows.now a.premise a.percent _ _ c.in_err-and.ensures c.check_rows_with-marked.ensures c.check_percent-within.ensures))

pub returns : goal.returns
returns c =
    let a = c.args in
    listed a.n a.used a.rows.now a.premise a.percent
    (decided a.n a.used a.rows.now a.premise a.percent _ _ c.in_ok-and.ensures c.check_rows_with-marked.ensures c.check_percent-within.ensures)
    c.nearly_always.ensures.in_range
