-- What it means that checks pass, and that one fails: 01's list as facts about sets.
use Rattle.std.specs.Prelude.{◌≡◌, refl, Bool, true, false, not, ◌||◌, List, [], ◌∷◌, ◌++◌, ℕ, ◌/◌, ◌≤◌, length, take, drop, eqb, ltb}
use Rattle.std.proofs.Common.{sym, ap, ◌∙◌, true≢false, append-nil}
use Rattle.std.proofs.Math.Option.{Option, none, some, some-ne-none}
use borrow.Author.Tests.{eqb-true, eqb-false, not-false, ltb-false}
use Rattle.theory.specs.Lists.{All}
use Rattle.theory.proofs.Lists.Laws.{all_take}
use Rattle.theory.specs.Implications.{Implication, Over}
use Rattle.attribute_set.specs.Sets.{Sub, inside, full}
use Rattle.attribute_set.proofs.Sets.Laws.{inside-sub, none-sub, sub-inside, or-least}
use Rattle.attribute_set.proofs.Words.{words}
use Rattle.implication.specs.Closure.{implication, closure}
use Rattle.context.specs.Places.{anywhere}
use Rattle.context.proofs.Places.Laws.{anywhere-false}
use Rattle.context.proofs.Places.Search.{anywhere-cons, anywhere-append}
use Rattle.context.specs.Objects.{Object, contradicts}
use Rattle.context.specs.Filling.{joined}
use Rattle.session.specs.declared.Refusal.{Refusal}
use Rattle.session.specs.Refusals.{refusal}
use Rattle.machine.specs.Checks.{State, Check, first_failing, strange, strange_object, strange_implication, outside_m, session_checks, test_checks, filing_checks, no_checks, force, reach_of, Standing, whole, tight, open-question, standing, question_stands}

pub or-false : (a b : Bool) → (a || b) ≡ false → (a ≡ false) × (b ≡ false)
or-false true b e = absurd (true≢false e)
or-false false b e = (refl, e)

-- no check of the list fails
abbrev pub Passed : List Check → Type 0
Passed [] = Unit {0}
Passed (c ∷ cs) = (c.fails ≡ false) × Passed cs

pub passed : (cs : List Check) → first_failing cs ≡ none → Passed cs
unfolding first_failing
passed [] e = tt
passed (c ∷ cs) e = go c.fails refl e (passed cs)
  where
    go : (b : Bool) → c.fails ≡ b
        → ◌≡◌ {A = Option Refusal} (elim b [ true ↦ some (record { number = c.number; place = c.place }) | false ↦ first_failing cs ]) none
        → (first_failing cs ≡ none → Passed cs) → (c.fails ≡ false) × Passed cs
    go true f h ih = absurd (some-ne-none _ h)
    go false f h ih = (f, ih h)

pub failing-nothing : first_failing [] ≡ none
unfolding first_failing
failing-nothing = refl

pub failing-here : (c : Check) (cs : List Check) → c.fails ≡ true → first_failing (c ∷ cs) ≡ some (record { number = c.number; place = c.place })
unfolding first_failing
failing-here c cs e = rw (first_failing, e)

pub failing-later : (c : Check) (cs : List Check) → c.fails ≡ false → first_failing (c ∷ cs) ≡ first_failing cs
unfolding first_failing
failing-later c cs e = rw (e, first_failing)

-- checks that pass leave the verdict to those behind them
pub failing-append : (xs ys : List Check) → Passed xs → first_failing (xs ++ ys) ≡ first_failing ys
unfolding first_failing
failing-append [] ys p = refl
failing-append (c ∷ xs) ys p = rw p.0 (failing-append xs ys p.1)

pub none-failing : (cs : List Check) → Passed cs → first_failing cs ≡ none
unfolding first_failing
none-failing cs p = ap first_failing (sym (append-nil cs)) ∙ failing-append cs [] p

pub passed-append : (xs ys : List Check) → first_failing (xs ++ ys) ≡ none → Passed xs × Passed ys
passed-append xs ys e = split xs (passed (xs ++ ys) e)
  where
    split : (zs : List Check) → Passed (zs ++ ys) → Passed zs × Passed ys
    split [] p = (tt, p)
    split (c ∷ zs) p = let t = split zs p.1 in ((p.0, t.0), t.1)

pub append-passed : (xs ys : List Check) → Passed xs → Passed ys → Passed (xs ++ ys)
append-passed [] ys p q = q
append-passed (c ∷ xs) ys p q = (p.0, append-passed xs ys p.1 q)

-- a check that fails decides, whatever stands behind it
pub failing-first : (xs ys : List Check) (r : Refusal) → first_failing xs ≡ some r → first_failing (xs ++ ys) ≡ some r
unfolding first_failing
failing-first [] ys r e = absurd (some-ne-none _ (sym e))
failing-first (c ∷ xs) ys r e = go c.fails (failing-first xs ys r) e
  where
    go : (b : Bool) → (first_failing xs ≡ some r → first_failing (xs ++ ys) ≡ some r)
        → ◌≡◌ {A = Option Refusal} (elim b [ true ↦ some (refusal c.number c.place) | false ↦ first_failing xs ]) (some r)
        → ◌≡◌ {A = Option Refusal} (elim b [ true ↦ some (refusal c.number c.place) | false ↦ first_failing (xs ++ ys) ]) (some r)
    go true ih h = h
    go false ih h = ih h

-- what stands behind decides by its first failing check alone
pub failing-behind : (xs ys zs : List Check) → first_failing ys ≡ first_failing zs → first_failing (xs ++ ys) ≡ first_failing (xs ++ zs)
unfolding first_failing
failing-behind [] ys zs e = e
failing-behind (c ∷ xs) ys zs e =
    ap (λ v. elim c.fails as (λ b. Option Refusal) [ true ↦ some (refusal c.number c.place) | false ↦ v ]) (failing-behind xs ys zs e)

-- a check that stands a second time decides nothing there
pub once-enough : (a b c : Check) (cs : List Check) → first_failing (a ∷ b ∷ c ∷ b ∷ cs) ≡ first_failing (a ∷ b ∷ c ∷ cs)
unfolding first_failing
once-enough a b c cs = go b.fails
  where
    first : Check → Option Refusal → Option Refusal
    first x later = elim x.fails [ true ↦ some (refusal x.number x.place) | false ↦ later ]

    second : Bool → Option Refusal → Option Refusal
    second f later = elim f [ true ↦ some (refusal b.number b.place) | false ↦ later ]

    go : (f : Bool) → first a (second f (first c (second f (first_failing cs)))) ≡ first a (second f (first c (first_failing cs)))
    go true = refl
    go false = refl

-- a no that passes its checks passes those of the test and those of the filing
pub no_both : (s : State) (o : Object) → first_failing (session_checks s [] ++ no_checks s o) ≡ none
    → (first_failing (test_checks s o) ≡ none) × (first_failing (filing_checks s o) ≡ none)
no_both s o e =
    let p = (passed-append (session_checks s []) (no_checks s o) e).1 in
    let q = passed-append (test_checks s o) (filing_checks s o) (none-failing (no_checks s o) p) in
    (none-failing _ q.0, none-failing _ q.1)

-- ---- checks 1 to 7

-- the object's marks are inside M
pub record InM (n : ℕ) (o : Object) : Type 0 where
  pub yes_marks : Sub o.yes_marks (full n)
  pub no_marks : Sub o.no_marks (full n)

-- so are those of a filled one
pub joined_in : (n : ℕ) (o m : Object) → InM n o → InM n m → InM n (joined o m)
joined_in n o m i j = record { yes_marks = or-least i.yes_marks j.yes_marks; no_marks = or-least i.no_marks j.no_marks }

pub familiar-object : (n : ℕ) (o : Object) → strange_object n o ≡ false → InM n o
unfolding strange
familiar-object n o e =
    let t = or-false (not (inside o.yes_marks (full n))) _ e in
    record { yes_marks = inside-sub _ _ (not-false _ t.0); no_marks = inside-sub _ _ (not-false _ t.1) }

pub familiar-implication : (n : ℕ) (r : Implication ℕ) → strange_implication n r ≡ false → Over words (full n) r
unfolding strange
familiar-implication n r e =
    let t = or-false (not (inside r.premise (full n))) _ e in
    record { premise = inside-sub _ _ (not-false _ t.0); conclusion = inside-sub _ _ (not-false _ t.1) }

-- a state that passes checks 1 to 7, as far as the theorems need it
pub record Valid (s : State) : Type 0 where
  pub rows : All (InM s.n) s.rows
  pub over : All (Over words (full s.n)) (force s)
  pub current : Sub s.current (full s.n)
  pub consistent : All (λ o. contradicts (force s) o ≡ false) s.rows
  pub closed : closure (force s) s.current ≡ s.current

pub valid : (s : State) (asked : List (Implication ℕ)) → Passed (session_checks s asked) → Valid s
unfolding session_checks outside_m
valid s asked p =
    let four = or-false (anywhere (strange_object s.n) s.rows) _ p.1.1.1.0 in
    let rest = or-false (anywhere (strange_implication s.n) (force s ++ asked)) _ four.1 in
    record {
      rows = λ o m. familiar-object s.n o (anywhere-false _ s.rows four.0 o m);
      over = all_take (force s) asked (λ r m. familiar-implication s.n r (anywhere-false _ (force s ++ asked) rest.0 r m));
      current = inside-sub _ _ (not-false _ rest.1);
      consistent = anywhere-false _ s.rows p.1.1.1.1.1.0;
      closed = eqb-true _ _ (not-false _ p.1.1.1.1.1.1.0);
    }

module _ (s : State) (asked : List (Implication ℕ)) where
  -- what passed sizes give
  pub sizes-fit : first_failing (take 3 (session_checks s asked)) ≡ none
      → (s.n ≤ 64) × (length s.rows ≤ s.lent.rows / 2) × (length s.list ≤ s.lent.list / 2)
  unfolding session_checks
  sizes-fit e =
      let p = passed (take 3 (session_checks s asked)) e in
      let one = or-false (eqb s.n 0) _ p.0 in
      let three = or-false (ltb (s.lent.rows / 2) (length s.rows)) _ p.1.1.0 in
      (ltb-false _ _ one.1, ltb-false _ _ three.0, ltb-false _ _ three.1)

  pub checked-small : first_failing (session_checks s asked) ≡ none
      → (s.n ≤ 64) × (length s.rows ≤ s.lent.rows / 2) × (length s.list ≤ s.lent.list / 2)
  unfolding session_checks
  checked-small e =
      sizes-fit (none-failing _ (passed-append (take 3 (session_checks s asked)) (drop 3 (session_checks s asked)) e).0)

-- the empty implication lies inside every M
unasked-outside : (n : ℕ) → anywhere (strange_implication n) (implication 0 0 ∷ []) ≡ anywhere (strange_implication n) []
unfolding strange
unasked-outside n =
    anywhere-cons (strange_implication n) (implication 0 0) [] ∙ rw (sub-inside (none-sub (full n)))

-- asking about the empty implication asks nothing
pub unasked : (s : State) → first_failing (session_checks s (implication 0 0 ∷ [])) ≡ first_failing (session_checks s [])
unfolding session_checks outside_m
unasked s =
    let f = strange_implication s.n in
    let e : anywhere f (force s ++ (implication 0 0 ∷ [])) ≡ anywhere f (force s ++ []) =
    anywhere-append f (force s) _ ∙ ap (λ b. anywhere f (force s) || b) (unasked-outside s.n) ∙ sym (anywhere-append f (force s) []) in
    rw e

-- ---- how the current set stands

pub standing-cases : (s : State) (P : Standing → Type 0) → (s.current ≡ full s.n → P whole)
    → ((s.current ≡ full s.n → ⊥) → reach_of s ≡ s.current → P tight)
    → ((s.current ≡ full s.n → ⊥) → (reach_of s ≡ s.current → ⊥) → P open-question) → P (standing s)
unfolding standing
standing-cases s P done moves asks = go (eqb s.current (full s.n)) refl
  where
    inner : (b : Bool) → eqb (reach_of s) s.current ≡ b → (s.current ≡ full s.n → ⊥) → P (elim b [ true ↦ tight | false ↦ open-question ])
    inner true e n = moves n (eqb-true _ _ e)
    inner false e n = asks n (eqb-false _ _ e)

    go : (b : Bool) → eqb s.current (full s.n) ≡ b
        → P (elim b [ true ↦ whole | false ↦ elim (eqb (reach_of s) s.current) [ true ↦ tight | false ↦ open-question ] ])
    go true e = done (eqb-true _ _ e)
    go false e = inner (eqb (reach_of s) s.current) refl (eqb-false _ _ e)

pub record Stands (s : State) : Type 0 where
  pub below : s.current ≡ full s.n → ⊥
  pub differs : reach_of s ≡ s.current → ⊥

pub stands : (s : State) → question_stands s ≡ true → Stands s
unfolding question_stands
stands s = standing-cases s (λ x. elim x as (λ y. Bool) [ whole ↦ false | tight ↦ false | open-question ↦ true ] ≡ true → Stands s)
    (λ e h. absurd (true≢false (sym h))) (λ n e h. absurd (true≢false (sym h))) (λ n e h. record { below = n; differs = e })
