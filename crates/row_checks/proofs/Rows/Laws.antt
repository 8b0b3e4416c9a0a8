-- The checks, computed (`cases`, `asked-cases`). They are those of a session that has the rows, no rules and the empty current set
-- (`as-session`), and where a set is asked about, those of that session asked about a rule with this premise (`as-session-with`); asking
-- about the empty set asks nothing (`none-asked`). Where they pass, the counts are in range, the row words have the rows in use, each row
-- marks attributes of M, none of them both ways (`rows_fit`), and the set asked about is inside M (`rows-fit-with`). Each check that fails
-- has the number and names the place that `Places` says (`right-rows`, `right-rows-with`).
use Rattle.std.specs.Prelude.{◌≡◌, Bool, true, false, ◌||◌, ℕ, ◌*◌, ◌/◌, ◌%◌, ◌≤◌, ◌<◌, length, eqb}
use Rattle.std.proofs.Math.Path.{refl, ap}
use Rattle.std.proofs.Common.{sym, ◌∙◌, ltb-false}
use Rattle.std.proofs.Math.Bool.{not}
use mathlib.Core.List.{List, [], ◌∷◌}
use Rattle.std.proofs.Math.Option.{none, some}
use native.Mathlib.Omega.{arith}
use Rattle.std.proofs.Math.Dec.{ltb}
use Rattle.std.proofs.lemmas.Bool.{eqb-false, not-false}
use Rattle.session.specs.declared.Session.{Session}
use Rattle.session.specs.Refusals.{refusal}
use Rattle.session.specs.Limits.{most_attributes, most_objects, most_implications, bad_length}
use Rattle.theory.specs.Lists.{All}
use Rattle.theory.proofs.Lists.Laws.{all_nil, all_cons}
use Rattle.theory.specs.Implications.{Implication}
use Rattle.attribute_set.specs.Sets.{Sub, Apart, inside, full, meets}
use Rattle.attribute_set.proofs.Sets.Laws.{none-sub, sub-inside, inside-sub}
use Rattle.implication.specs.Pairs.{pairs}
use Rattle.implication.proofs.Pairs.Laws.{length_pairs}
use Rattle.implication.specs.Closure.{implication, closure, close}
use Rattle.context.specs.Places.{lowest, anywhere}
use Rattle.context.proofs.Places.Laws.{anywhere-false}
use Rattle.context.proofs.Places.Search.{anywhere-one}
use Rattle.context.specs.Objects.{Object, object, objects_of, marked_twice, contradicts}
use Rattle.context.proofs.Objects.Laws.{marked-apart}
use Rattle.machine.specs.Checks.{Check, check, first_failing, strange, strange_object, strange_implication, session_checks, outside_m}
use Rattle.machine.proofs.Checks.Laws.{InM, or-false, passed, failing-here, failing-later, familiar-object}
use Rattle.demands.proofs.Facts.Refused.{lowest-row}
use Rattle.machine.specs.Calls.{state_of}
use Rattle.row_checks.specs.Rows.{row_checks, row_checks_with}
use Rattle.row_checks.specs.Rows.Places.{RightRow}

-- computed, each refusal before those behind it: no attribute, an odd length, a row too many, an attribute outside M, one marked both ways
-- by row 1; and rows that pass
cases : (first_failing (row_checks 0 3 (2 ∷ [])) ≡ some (refusal 1 0))
    × (first_failing (row_checks 1 3 (2 ∷ [])) ≡ some (refusal 2 0))
    × (first_failing (row_checks 1 3 (2 ∷ 1 ∷ 2 ∷ 1 ∷ [])) ≡ some (refusal 3 0))
    × (first_failing (row_checks 1 2 (1 ∷ 1 ∷ 2 ∷ 1 ∷ [])) ≡ some (refusal 4 0))
    × (first_failing (row_checks 2 2 (1 ∷ 0 ∷ 1 ∷ 1 ∷ [])) ≡ some (refusal 5 1))
    × (first_failing (row_checks 2 2 (1 ∷ 0 ∷ 0 ∷ 3 ∷ 3 ∷ 3 ∷ [])) ≡ none)
unfolding row_checks first_failing bad_length anywhere lowest marked_twice meets strange inside full pairs
cases = (refl, refl, refl, refl, refl, refl)

-- computed, with a set asked about: outside M it is refused behind a row too many and before an attribute that a row marks both ways, which
-- is refused where the set is inside M; and rows and a set that pass
asked-cases : (first_failing (row_checks_with 1 3 (2 ∷ 1 ∷ 2 ∷ 1 ∷ []) 2) ≡ some (refusal 3 0))
    × (first_failing (row_checks_with 1 2 (1 ∷ 0 ∷ 1 ∷ 1 ∷ []) 2) ≡ some (refusal 4 0))
    × (first_failing (row_checks_with 1 2 (1 ∷ 0 ∷ 1 ∷ 1 ∷ []) 1) ≡ some (refusal 5 1))
    × (first_failing (row_checks_with 2 2 (1 ∷ 0 ∷ 0 ∷ 3 ∷ []) 2) ≡ none)
unfolding row_checks_with first_failing bad_length anywhere lowest marked_twice meets strange inside full pairs
asked-cases = (refl, refl, refl, refl)

-- the session of the rows alone
abbrev pub rows_alone : ℕ → ℕ → Session
rows_alone n used = record { n = n; rows = used; rules = 0; current = 0 }

or-none : (b : Bool) → (b || false) ≡ b
or-none true = refl
or-none false = refl

-- a check that fails decides; where it passes, what stands behind it does
behind : (c : Check) (cs ds : List Check) → (c.fails ≡ false → first_failing cs ≡ first_failing ds) → first_failing (c ∷ cs) ≡ first_failing (c ∷ ds)
behind c cs ds h = go c.fails refl
  where
    go : (b : Bool) → c.fails ≡ b → first_failing (c ∷ cs) ≡ first_failing (c ∷ ds)
    go true e = failing-here c cs e ∙ sym (failing-here c ds e)
    go false e = failing-later c cs e ∙ h e ∙ sym (failing-later c ds e)

module _ (n used : ℕ) (words : List ℕ) where
  abbrev rows : List Object
  rows = objects_of used words

  lengths : (bad_length most_objects (length words) || (bad_length most_implications 0 || bad_length most_implications 0)) ≡ bad_length most_objects (length words)
  unfolding bad_length
  lengths = or-none _

  places : (ltb (length words / 2) (length rows) || ltb (0 / 2) 0) ≡ ltb (length words / 2) used
  places = or-none _ ∙ ap (ltb (length words / 2)) (length_pairs object used words)

  abbrev six : Check
  six = check 6 (anywhere (contradicts []) rows) (lowest (contradicts []) rows)

  abbrev seven : Check
  seven = check 7 (not (eqb (closure [] 0) 0)) 0

  -- no rule is in force: a row contradicts just where it marks an attribute both ways, and the empty set is its own closure
  last : anywhere marked_twice rows ≡ false → first_failing (six ∷ seven ∷ []) ≡ first_failing []
  unfolding closure close contradicts marked_twice
  last e = failing-later six (seven ∷ []) e ∙ failing-later seven [] refl

  -- the checks, by whether 2, 3 and 4 fail
  checks : Bool → Bool → Bool → List Check → List Check
  checks two three four cs =
      check 1 (eqb n 0 || ltb most_attributes n) 0
      ∷ check 2 two 0
      ∷ check 3 three 0
      ∷ check 4 four 0
      ∷ check 5 (anywhere marked_twice rows) (lowest marked_twice rows)
      ∷ cs

  module _ (asked : ℕ) where
    -- the rule asked about, from the set to nothing: it has an attribute outside M just where the set has one
    abbrev rule : List (Implication ℕ)
    rule = implication asked 0 ∷ []

    outside : (anywhere (strange_object n) rows || (anywhere (strange_implication n) rule || not (inside 0 (full n))))
        ≡ (anywhere (strange_object n) rows || not (inside asked (full n)))
    unfolding strange
    outside =
        rw (anywhere-one (strange_implication n) (implication asked 0), sub-inside (none-sub (full n)))
        (ap (λ b. anywhere (strange_object n) rows || b) (or-none _ ∙ or-none _ ∙ or-none _))

    pub as-session-with : first_failing (session_checks (state_of (rows_alone n used) words [] []) (implication asked 0 ∷ []))
        ≡ first_failing (row_checks_with n used words asked)
    unfolding session_checks outside_m row_checks_with pairs checks
    as-session-with =
        let cs = six ∷ seven ∷ [] in
        let four = anywhere (strange_object n) rows || (anywhere (strange_implication n) rule || not (inside 0 (full n))) in
        ap (λ b. first_failing (checks b (ltb (length words / 2) (length rows) || ltb (0 / 2) 0) four cs)) lengths
        ∙ ap (λ b. first_failing (checks (bad_length most_objects (length words)) b four cs)) places
        ∙ ap (λ b. first_failing (checks (bad_length most_objects (length words)) (ltb (length words / 2) used) b cs)) outside
        ∙ behind _ _ _ λ a. behind _ _ _ λ b. behind _ _ _ λ c. behind _ _ _ λ d. behind _ cs [] last

  -- the empty set is inside every M
  pub none-asked : first_failing (row_checks_with n used words 0) ≡ first_failing (row_checks n used words)
  unfolding row_checks_with row_checks checks
  none-asked =
      let e : (anywhere (strange_object n) rows || not (inside 0 (full n))) ≡ anywhere (strange_object n) rows =
      rw (sub-inside (none-sub (full n))) (or-none _) in
      ap (λ b. first_failing (checks (bad_length most_objects (length words)) (ltb (length words / 2) used) b [])) e

  pub as-session : first_failing (session_checks (state_of (rows_alone n used) words [] []) (implication 0 0 ∷ [])) ≡ first_failing (row_checks n used words)
  as-session = as-session-with 0 ∙ none-asked

  -- ---- the number of a refusal, and its place

  -- the check fails with this number at this place
  abbrev pub Right : Check → Type 0
  Right c = c.fails ≡ true → RightRow used words (refusal c.number c.place)

  small : (k : ℕ) → 0 < k → k < 5 → RightRow used words (refusal k 0)
  small k h i = record { number = (h, omega arith); five = λ e. absurd (omega arith); other = λ a. refl }

  right : (two three four : Bool) → All Right (checks two three four [])
  unfolding checks
  right two three four =
      all_cons (λ f. small 1 (omega arith) (omega arith)) (all_cons (λ f. small 2 (omega arith) (omega arith))
      (all_cons (λ f. small 3 (omega arith) (omega arith)) (all_cons (λ f. small 4 (omega arith) (omega arith))
      (all_cons (λ f. record {
        number = (omega arith, omega arith);
        five = λ e. lowest-row marked_twice rows f;
        other = λ a. absurd (a refl);
      }) (all_nil _)))))

  pub right-rows : All Right (row_checks n used words)
  unfolding row_checks checks
  right-rows = right _ _ _

  pub right-rows-with : (asked : ℕ) → All Right (row_checks_with n used words asked)
  unfolding row_checks_with checks
  right-rows-with asked = right _ _ _

-- ---- what passed checks give

pub record Fits (n used : ℕ) (words : List ℕ) : Type 0 where
  pub some : 0 < n
  pub attributes : n ≤ most_attributes
  pub objects : used ≤ most_objects
  pub places : used ≤ length words / 2
  pub inside : All (InM n) (objects_of used words)
  pub apart : All (λ o. Apart o.yes_marks o.no_marks) (objects_of used words)

length-fits : (words : ℕ) → bad_length most_objects words ≡ false → words ≤ most_objects * 2
unfolding bad_length
length-fits words e = ltb-false _ _ (or-false (not (eqb (words % 2) 0)) _ e).1

pub rows-fit-with : (n used : ℕ) (words : List ℕ) (asked : ℕ) → first_failing (row_checks_with n used words asked) ≡ none
    → Fits n used words × Sub asked (full n)
unfolding row_checks_with
rows-fit-with n used words asked e =
    let p = passed (row_checks_with n used words asked) e in
    let os = objects_of used words in
    let one = or-false (eqb n 0) (ltb most_attributes n) p.0 in
    let four = or-false (anywhere (strange_object n) os) (not (inside asked (full n))) p.1.1.1.0 in
    let places : used ≤ length words / 2 = ltb-false _ _ p.1.1.0 in
    let fits : Fits n used words = record {
      some = omega (arith, eqb-false n 0 one.0);
      attributes = ltb-false _ _ one.1;
      objects = omega (arith, length-fits (length words) p.1.0);
      places = places;
      inside = λ o m. familiar-object n o (anywhere-false (strange_object n) os four.0 o m);
      apart = λ o m. marked-apart o (anywhere-false marked_twice os p.1.1.1.1.0 o m);
    } in
    (fits, inside-sub _ _ (not-false _ four.1))

pub rows_fit : (n used : ℕ) (words : List ℕ) → first_failing (row_checks n used words) ≡ none → Fits n used words
rows_fit n used words e = (rows-fit-with n used words 0 (none-asked n used words ∙ e)).0
