-- What is answered, computed (`cases`, `sets`), and for every table: checks 1 to 5 decide, and where they pass 31 (`list-checked`); where
-- that passes too, the numbers are in range (`in_range`). A set is answered just where every check passes (`listed-checked`). Every refusal
-- has the number and names the place that `Places` says (`right-place`).
use Rattle.std.specs.Prelude.{◌≡◌, true, List, [], ◌∷◌, ℕ, length, Ok, Err}
use Rattle.std.proofs.Math.Path.{refl}
use Rattle.std.proofs.Common.{ap, inl, arith}
use Rattle.std.proofs.Math.Logic.{inr}
use Rattle.std.proofs.Math.Option.{Option, none, some}
use borrow.Author.Tests.{ltb-false}
use Rattle.theory.specs.Lists.{All}
use Rattle.theory.proofs.Lists.Laws.{all_nil, all_cons, all_append}
use Rattle.session.specs.declared.Refusal.{Refusal}
use Rattle.session.specs.Refusals.{refusal}
use Rattle.session.specs.Limits.{bad_length}
use Rattle.attribute_set.specs.Sets.{inside, full, meets, without}
use Rattle.attribute_set.specs.Passing.{passing}
use Rattle.implication.specs.Pairs.{pairs}
use Rattle.context.specs.Places.{lowest, anywhere}
use Rattle.context.specs.Objects.{objects_of, marked_twice}
use Rattle.machine.specs.Checks.{first_failing, strange}
use Rattle.machine.proofs.Checks.Laws.{passed-append, none-failing}
use Rattle.demands.proofs.Facts.Refused.{failing-check}
use Rattle.session_checks.specs.Checked.{first_of}
use Rattle.session_checks.proofs.Checked.Laws.{first-of}
use Rattle.row_checks.specs.Rows.{row_checks_with}
use Rattle.row_checks.proofs.Rows.Laws.{rows-fit-with, right-rows-with}
use Rattle.row_checks.specs.Rows.Places.{RightRow}
use Rattle.nearly_always.specs.Nearly.{having, exceeds, nearly_always, most_percent, InRange}
use Rattle.nearly_listing.specs.Listing.{percent_check, list_checks, listed_by, listing}
use Rattle.nearly_listing.specs.Listing.Places.{RightPlace}

-- computed, each refusal before those behind it: no attribute, an odd length, a row too many, a row with an attribute outside M, a premise
-- with one, an attribute that row 1 marks both ways, 100 per cent; and 99 per cent
cases : (listing 0 3 (2 ∷ []) 1 100 ≡ Err (refusal 1 0))
    × (listing 1 3 (2 ∷ []) 2 100 ≡ Err (refusal 2 0))
    × (listing 1 3 (2 ∷ 1 ∷ 2 ∷ 1 ∷ []) 2 100 ≡ Err (refusal 3 0))
    × (listing 1 2 (1 ∷ 0 ∷ 3 ∷ 1 ∷ []) 1 100 ≡ Err (refusal 4 0))
    × (listing 1 2 (1 ∷ 0 ∷ 1 ∷ 1 ∷ []) 2 100 ≡ Err (refusal 4 0))
    × (listing 1 2 (1 ∷ 0 ∷ 1 ∷ 1 ∷ []) 1 100 ≡ Err (refusal 5 1))
    × (listing 2 2 (3 ∷ 0 ∷ 3 ∷ 0 ∷ []) 1 100 ≡ Err (refusal 31 0))
    × (listing 2 2 (3 ∷ 0 ∷ 3 ∷ 0 ∷ []) 1 99 ≡ Ok 2)
unfolding list_checks row_checks_with first_failing bad_length anywhere lowest marked_twice meets strange inside full pairs nearly_always passing exceeds having without
cases = (refl, refl, refl, refl, refl, refl, refl, refl)

-- computed, attribute 1 beside attribute 0: two rows of three exceed 66 per cent, and not 67; one row of two does not exceed 50 per cent,
-- whether the other has no mark or a no there; where that row is not in use, one of one does; a premise that no row has lists nothing,
-- even for 0 per cent
sets : (listing 2 3 (3 ∷ 0 ∷ 3 ∷ 0 ∷ 1 ∷ 2 ∷ []) 1 66 ≡ Ok 2)
    × (listing 2 3 (3 ∷ 0 ∷ 3 ∷ 0 ∷ 1 ∷ 2 ∷ []) 1 67 ≡ Ok 0)
    × (listing 2 2 (3 ∷ 0 ∷ 1 ∷ 0 ∷ []) 1 50 ≡ Ok 0)
    × (listing 2 2 (3 ∷ 0 ∷ 1 ∷ 2 ∷ []) 1 50 ≡ Ok 0)
    × (listing 2 1 (3 ∷ 0 ∷ 1 ∷ 2 ∷ []) 1 50 ≡ Ok 2)
    × (listing 2 2 (1 ∷ 2 ∷ 1 ∷ 0 ∷ []) 2 0 ≡ Ok 0)
unfolding list_checks row_checks_with first_failing bad_length anywhere lowest marked_twice meets strange inside full pairs nearly_always passing exceeds having without
sets = (refl, refl, refl, refl, refl, refl)

-- ---- which check decides

module _ (n used : ℕ) (words : List ℕ) (premise percent : ℕ) where
  pub list-checked : first_of (first_failing (row_checks_with n used words premise)) (first_failing (percent_check percent ∷ []))
      ≡ first_failing (list_checks n used words premise percent)
  unfolding list_checks
  list-checked = first-of (row_checks_with n used words premise) (percent_check percent ∷ [])

  -- what passed checks give
  pub in_range : first_failing (list_checks n used words premise percent) ≡ none → InRange n used (length words) percent
  unfolding list_checks
  in_range e =
      let p = passed-append (row_checks_with n used words premise) (percent_check percent ∷ []) e in
      let f = (rows-fit-with n used words premise (none-failing (row_checks_with n used words premise) p.0)).0 in
      record { attributes = f.attributes; objects = f.objects; places = f.places; percentage = ltb-false most_percent percent p.1.0 }

-- ---- where a set is answered

answered : (o : Option Refusal) (set s : ℕ) → listed_by o set ≡ Ok s → (o ≡ none) × (s ≡ set)
answered none set s e = (refl, cc)
answered (some r) set s e = cc

pub listed-checked : (n used : ℕ) (words : List ℕ) (premise percent s : ℕ) → listing n used words premise percent ≡ Ok s
    → (first_failing (list_checks n used words premise percent) ≡ none) × (s ≡ nearly_always n percent (objects_of used words) premise)
listed-checked n used words premise percent s e =
    answered (first_failing (list_checks n used words premise percent)) (nearly_always n percent (objects_of used words) premise) s e

-- ---- the number of a refusal, and its place

module _ (n used : ℕ) (words : List ℕ) (premise percent : ℕ) where
  row-place : (r : Refusal) → RightRow used words r → RightPlace used words r
  row-place r p = record { number = inl p.number; five = p.five; other = p.other }

  places : All (λ c. c.fails ≡ true → RightPlace used words (refusal c.number c.place)) (list_checks n used words premise percent)
  unfolding list_checks
  places =
      all_append (row_checks_with n used words premise) _ (λ c m f. row-place _ (right-rows-with n used words premise c m f))
      (all_cons (λ f. record { number = inr refl; five = λ e. absurd (omega arith); other = λ a. refl }) (all_nil _))

refused-by : (o : Option Refusal) (set : ℕ) (r : Refusal) → listed_by o set ≡ Err r → o ≡ some r
refused-by none set r e = cc
refused-by (some x) set r e =
    let same : x ≡ r = cc in
    ap some same

pub right-place : (n used : ℕ) (words : List ℕ) (premise percent : ℕ) (r : Refusal) → listing n used words premise percent ≡ Err r
    → RightPlace used words r
right-place n used words premise percent r e =
    failing-check (RightPlace used words) (list_checks n used words premise percent) (places n used words premise percent) r
    (refused-by _ (nearly_always n percent (objects_of used words) premise) r e)
