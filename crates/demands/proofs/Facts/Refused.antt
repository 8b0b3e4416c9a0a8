-- The place of a refusal (01, "Refusals in checking order"): in 5, in 6 and in 11 for a yes the lowest row of which the check speaks, else 0.
-- `right-place` says so of every refused call, and `opening-place` of a refused opening; `known-number` and `opening-number`, that the
-- numbers are 1 to 12, 32 and 33, the last two of a filling alone, and 1 to 7 at the opening.
use Rattle.std.specs.Prelude.{◌≡◌, refl, ◌⊎◌, Bool, true, false, List, [], ◌∷◌, ℕ, ◌≤◌, ◌<◌, length, get_or}
use Rattle.std.proofs.Common.{sym, ap, ◌∙◌, subst, inl, inr, arith, ltb-true}
use mathlib.Core.List.Memᴰ
use Rattle.std.proofs.Math.Option.{Option, none, some, some-ne-none}
use Rattle.theory.specs.Lists.{All}
use Rattle.theory.proofs.Lists.Laws.{all_nil, all_cons, all_append}
use Rattle.theory.specs.Implications.{Implication}
use Rattle.context.specs.Places.{lowest, anywhere}
use Rattle.context.proofs.Places.Laws.{lowest-at}
use Rattle.context.specs.Objects.{Object, marked_twice, contradicts}
use Rattle.session.specs.declared.Refusal.{Refusal}
use Rattle.session.specs.Refusals.{refusal}
use Rattle.machine.specs.Checks.{Lent, State, Check, first_failing, session_checks, yes_checks, test_checks, filing_checks, fill_checks, force, with_question}
use Rattle.machine.specs.Machine.{Call, step, accept, reject, follow, refute, test, file, fill, refused, checks_of, perform, Opening, opened, rejected, opening, opening_state}
use Rattle.machine.proofs.Machine.Laws.{refused-failing}
use Rattle.demands.proofs.Facts.Kept.{failing-number, test-numbers, filing-numbers, FillNumber, fill-numbers}

-- the lowest place of a list at which a test holds
pub record Lowest {A : Type 0} (f : A → Bool) (l : List A) (place : ℕ) : Type 0 where
  pub within : place < length l
  pub holds : (d : A) → f (get_or l place d) ≡ true
  pub first : (d : A) (i : ℕ) → i < place → f (get_or l i d) ≡ false

pub record RightPlace (s : State) (c : Call) (r : Refusal) : Type 0 where
  pub five : r.number ≡ 5 → Lowest marked_twice s.rows r.place
  pub six : r.number ≡ 6 → Lowest (contradicts (force s)) s.rows r.place
  pub eleven : c ≡ accept → r.number ≡ 11 → Lowest (contradicts (with_question s)) s.rows r.place
  pub other : (r.number ≡ 5 → ⊥) → (r.number ≡ 6 → ⊥) → (c ≡ accept → r.number ≡ 11 → ⊥) → r.place ≡ 0

-- ---- the check that fails

-- a refusal is that of a check of the list that fails
pub failing-check : (P : Refusal → Type 0) (cs : List Check) → All (λ c. c.fails ≡ true → P (refusal c.number c.place)) cs
    → (r : Refusal) → first_failing cs ≡ some r → P r
unfolding first_failing
failing-check P [] all r e = absurd (some-ne-none _ (sym e))
failing-check P (c ∷ cs) all r e = go c.fails refl (failing-check P cs (λ x m. all x (Memᴰ.tail m)) r) e
  where
    go : (b : Bool) → c.fails ≡ b → (first_failing cs ≡ some r → P r)
        → ◌≡◌ {A = Option Refusal} (elim b [ true ↦ some (refusal c.number c.place) | false ↦ first_failing cs ]) (some r) → P r
    go true f ih h =
        let same : refusal c.number c.place ≡ r = cc in
        subst P same (all c (Memᴰ.head refl) f)
    go false f ih h = ih h

pub lowest-row : {A : Type 0} (f : A → Bool) (l : List A) → anywhere f l ≡ true → Lowest f l (lowest f l)
unfolding anywhere
lowest-row f l e =
    let h = ltb-true (lowest f l) (length l) e in
    record { within = h; holds = λ d. (lowest-at f l d h).0; first = λ d. (lowest-at f l d h).1 }

module _ (s : State) (c : Call) where
  -- a check with another number and the place 0
  plain : (k : ℕ) → (k ≡ 5 → ⊥) → (k ≡ 6 → ⊥) → (c ≡ accept → k ≡ 11 → ⊥) → RightPlace s c (refusal k 0)
  plain k a b d = record { five = λ e. absurd (a e); six = λ e. absurd (b e); eleven = λ e h. absurd (d e h); other = λ _ _ _. refl }

  small : (k : ℕ) → k < 5 → RightPlace s c (refusal k 0)
  small k h = plain k (λ e. omega arith) (λ e. omega arith) (λ _ e. omega arith)

  session-places : (asked : List (Implication ℕ)) → All (λ x. x.fails ≡ true → RightPlace s c (refusal x.number x.place)) (session_checks s asked)
  unfolding session_checks
  session-places asked =
      all_cons (λ _. small 1 (omega arith)) (all_cons (λ _. small 2 (omega arith)) (all_cons (λ _. small 3 (omega arith)) (all_cons (λ _. small 4 (omega arith))
      (all_cons (λ f. record { five = λ _. lowest-row _ s.rows f; six = λ e. absurd (omega arith); eleven = λ _ e. absurd (omega arith); other = λ a _ _. absurd (a refl) })
      (all_cons (λ f. record { five = λ e. absurd (omega arith); six = λ _. lowest-row _ s.rows f; eleven = λ _ e. absurd (omega arith); other = λ _ a _. absurd (a refl) })
      (all_cons (λ _. plain 7 (λ e. omega arith) (λ e. omega arith) (λ _ e. omega arith)) (all_nil _)))))))

  -- a check of a reply with the place 0
  late : (k : ℕ) → 7 < k → (c ≡ accept → k ≡ 11 → ⊥) → RightPlace s c (refusal k 0)
  late k h d = plain k (λ e. omega arith) (λ e. omega arith) d

yes-places : (s : State) → All (λ x. x.fails ≡ true → RightPlace s accept (refusal x.number x.place)) (yes_checks s)
unfolding yes_checks
yes-places s =
    all_cons (λ _. late s accept 8 (omega arith) (λ _ e. omega arith))
    (all_cons (λ f. record { five = λ e. absurd (omega arith); six = λ e. absurd (omega arith); eleven = λ _ _. lowest-row _ s.rows f; other = λ _ _ a. absurd (a refl refl) })
    (all_cons (λ _. late s accept 12 (omega arith) (λ _ e. omega arith)) (all_nil _)))

no-is-no-yes : (o : Object) → reject o ≡ accept → ⊥
no-is-no-yes o e = let z : ◌≡◌ {A = ℕ} 0 1 = cc in omega arith

test-is-no-yes : (o : Object) → test o ≡ accept → ⊥
test-is-no-yes o e = let z : ◌≡◌ {A = ℕ} 0 1 = cc in omega arith

filing-is-no-yes : (o : Object) → file o ≡ accept → ⊥
filing-is-no-yes o e = let z : ◌≡◌ {A = ℕ} 0 1 = cc in omega arith

fill-is-no-yes : (k : ℕ) (m : Object) → fill k m ≡ accept → ⊥
fill-is-no-yes k m e = let z : ◌≡◌ {A = ℕ} 0 1 = cc in omega arith

-- of a test, a filing, a no and a filling, calls that are no yes: every place is 0
module _ (s : State) (c : Call) (other : c ≡ accept → ⊥) (o : Object) where
  at : (k : ℕ) → 7 < k → RightPlace s c (refusal k 0)
  at k h = late s c k h (λ e _. other e)

  test-places : All (λ x. x.fails ≡ true → RightPlace s c (refusal x.number x.place)) (test_checks s o)
  unfolding test_checks
  test-places = all_cons (λ _. at 8 (omega arith)) (all_cons (λ _. at 9 (omega arith)) (all_cons (λ _. at 10 (omega arith)) (all_nil _)))

  filing-places : All (λ x. x.fails ≡ true → RightPlace s c (refusal x.number x.place)) (filing_checks s o)
  unfolding filing_checks
  filing-places = all_cons (λ _. at 9 (omega arith)) (all_cons (λ _. at 11 (omega arith)) (all_cons (λ _. at 12 (omega arith)) (all_nil _)))

  fill-places : (k : ℕ) → All (λ x. x.fails ≡ true → RightPlace s c (refusal x.number x.place)) (fill_checks s k o)
  unfolding fill_checks
  fill-places k =
      all_cons (λ _. at 32 (omega arith)) (all_cons (λ _. at 9 (omega arith)) (all_cons (λ _. at 33 (omega arith)) (all_cons (λ _. at 11 (omega arith)) (all_nil _))))

all-places : (s : State) (c : Call) → All (λ x. x.fails ≡ true → RightPlace s c (refusal x.number x.place)) (checks_of s c)
unfolding checks_of
all-places s step = session-places s step []
all-places s accept = all_append (session_checks s []) (yes_checks s) (session-places s accept []) (yes-places s)
all-places s (reject o) =
    let other = no-is-no-yes o in
    all_append (session_checks s []) _ (session-places s (reject o) [])
    (all_append (test_checks s o) (filing_checks s o) (test-places s (reject o) other o) (filing-places s (reject o) other o))
all-places s (follow q) = session-places s (follow q) (q ∷ [])
all-places s (refute q) = session-places s (refute q) (q ∷ [])
all-places s (test o) =
    all_append (session_checks s []) (test_checks s o) (session-places s (test o) []) (test-places s (test o) (test-is-no-yes o) o)
all-places s (file o) =
    all_append (session_checks s []) (filing_checks s o) (session-places s (file o) []) (filing-places s (file o) (filing-is-no-yes o) o)
all-places s (fill k m) =
    all_append (session_checks s []) (fill_checks s k m) (session-places s (fill k m) []) (fill-places s (fill k m) (fill-is-no-yes k m) m k)

pub right-place : (s : State) (c : Call) (r : Refusal) → (perform s c).answer ≡ refused r → RightPlace s c r
right-place s c r h = failing-check (RightPlace s c) (checks_of s c) (all-places s c) r (refused-failing s c r h)

-- ---- the numbers

abbrev pub Between : ℕ → ℕ → ℕ → Type 0
Between a b k = (a ≤ k) × (k ≤ b)

session-numbers : (s : State) (asked : List (Implication ℕ)) → All (λ x. Between 1 7 x.number) (session_checks s asked)
unfolding session_checks
session-numbers s asked =
    all_cons (omega arith) (all_cons (omega arith) (all_cons (omega arith) (all_cons (omega arith) (all_cons (omega arith) (all_cons (omega arith)
    (all_cons (omega arith) (all_nil _)))))))

yes-numbers : (s : State) → All (λ x. Between 1 12 x.number) (yes_checks s)
unfolding yes_checks
yes-numbers s = all_cons (omega arith) (all_cons (omega arith) (all_cons (omega arith) (all_nil _)))

-- the numbers that a call may be refused with
abbrev pub KnownNumber : Call → ℕ → Type 0
KnownNumber step k = Between 1 7 k
KnownNumber accept k = Between 1 12 k
KnownNumber (reject o) k = Between 1 12 k
KnownNumber (follow q) k = Between 1 7 k
KnownNumber (refute q) k = Between 1 7 k
KnownNumber (test o) k = Between 1 10 k
KnownNumber (file o) k = Between 1 12 k
KnownNumber (fill r m) k = Between 1 7 k ⊎ FillNumber k

all-numbers : (s : State) (c : Call) → All (λ x. KnownNumber c x.number) (checks_of s c)
unfolding checks_of
all-numbers s c = go c
  where
    early : (b : ℕ) → 7 ≤ b → (asked : List (Implication ℕ)) → All (λ x. Between 1 b x.number) (session_checks s asked)
    early b le asked x m = let h = session-numbers s asked x m in (h.0, omega (arith, h.1, le))

    tested : (b : ℕ) → 10 ≤ b → (o : Object) → All (λ x. Between 1 b x.number) (test_checks s o)
    tested b le o x m = let h = test-numbers s o x m in (omega (arith, h.0), omega (arith, h.1, le))

    filed : (o : Object) → All (λ x. Between 1 12 x.number) (filing_checks s o)
    filed o x m = let h = filing-numbers s o x m in (omega (arith, h.0), h.1)

    go : (d : Call) → All (λ x. KnownNumber d x.number) (checks_of s d)
    go step = session-numbers s []
    go accept = all_append (session_checks s []) (yes_checks s) (early 12 (omega arith) []) (yes-numbers s)
    go (reject o) =
        all_append (session_checks s []) _ (early 12 (omega arith) [])
        (all_append (test_checks s o) (filing_checks s o) (tested 12 (omega arith) o) (filed o))
    go (follow q) = session-numbers s (q ∷ [])
    go (refute q) = session-numbers s (q ∷ [])
    go (test o) = all_append (session_checks s []) (test_checks s o) (early 10 (omega arith) []) (tested 10 (omega arith) o)
    go (file o) = all_append (session_checks s []) (filing_checks s o) (early 12 (omega arith) []) (filed o)
    go (fill k m) =
        all_append (session_checks s []) (fill_checks s k m) (λ x t. inl (session-numbers s [] x t)) (λ x t. inr (fill-numbers s k m x t))

pub known-number : (s : State) (c : Call) (r : Refusal) → (perform s c).answer ≡ refused r → KnownNumber c r.number
known-number s c r h = failing-number (KnownNumber c) (checks_of s c) (all-numbers s c) r (refused-failing s c r h)

fill-small : All (λ k. k < 100) (32 ∷ 9 ∷ 33 ∷ 11 ∷ [])
fill-small = all_cons (omega arith) (all_cons (omega arith) (all_cons (omega arith) (all_cons (omega arith) (all_nil _))))

-- so that it is below 100
pub small-number : (s : State) (c : Call) (r : Refusal) → (perform s c).answer ≡ refused r → r.number < 100
small-number s c r h = go c (known-number s c r h)
  where
    go : (d : Call) → KnownNumber d r.number → r.number < 100
    go step n = omega (arith, n.1)
    go accept n = omega (arith, n.1)
    go (reject o) n = omega (arith, n.1)
    go (follow q) n = omega (arith, n.1)
    go (refute q) n = omega (arith, n.1)
    go (test o) n = omega (arith, n.1)
    go (file o) n = omega (arith, n.1)
    go (fill k m) (inl n) = omega (arith, n.1)
    go (fill k m) (inr n) = fill-small r.number n

-- ---- the opening

opening-failing : (n : ℕ) (lent : Lent) (background : List (Implication ℕ)) (rows : List Object) (r : Refusal) → opening n lent background rows ≡ rejected r
    → first_failing (session_checks (opening_state n lent background rows) []) ≡ some r
unfolding opening
opening-failing n lent background rows r = go (first_failing (session_checks (opening_state n lent background rows) [])) refl
  where
    go : (v : Option Refusal) → first_failing (session_checks (opening_state n lent background rows) []) ≡ v
        → elim v as (λ x. Opening) [ none ↦ opened (opening_state n lent background rows) | some x ↦ rejected x ] ≡ rejected r
        → first_failing (session_checks (opening_state n lent background rows) []) ≡ some r
    go none e h = absurd (let z : ◌≡◌ {A = ℕ} 0 1 = cc in omega arith)
    go (some x) e h = let same : x ≡ r = cc in e ∙ ap some same

pub opening-number : (n : ℕ) (lent : Lent) (background : List (Implication ℕ)) (rows : List Object) (r : Refusal)
    → opening n lent background rows ≡ rejected r → Between 1 7 r.number
opening-number n lent background rows r h =
    failing-number (Between 1 7) (session_checks (opening_state n lent background rows) []) (session-numbers (opening_state n lent background rows) []) r
    (opening-failing n lent background rows r h)

pub opening-place : (n : ℕ) (lent : Lent) (background : List (Implication ℕ)) (rows : List Object) (r : Refusal)
    → opening n lent background rows ≡ rejected r → RightPlace (opening_state n lent background rows) step r
opening-place n lent background rows r h =
    let s = opening_state n lent background rows in
    failing-check (RightPlace s step) (session_checks s []) (session-places s step []) r (opening-failing n lent background rows r h)
