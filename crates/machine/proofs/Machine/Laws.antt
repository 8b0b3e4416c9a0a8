-- A call by cases: what it does where its checks pass, and a refusal, which leaves the state as it is; a step by cases. A refused call is
-- refused by the first of its checks that fails (`refused-failing`), and one that is not refused passes them (`answered-passing`).
use Rattle.std.specs.Prelude.{◌≡◌, Bool, true, false, List, [], ℕ, ◌<◌, length, ltb}
use Rattle.std.proofs.Math.Path.{refl}
use Rattle.std.proofs.Common.{ap, ◌∙◌, subst, arith, leb-false}
use Rattle.std.proofs.Math.Option.{Option, none, some}
use Rattle.theory.specs.Implications.{Implication}
use Rattle.attribute_set.specs.Sets.{full}
use Rattle.context.specs.Objects.{Object, first_refuting}
use Rattle.session.specs.declared.Refusal.{Refusal}
use Rattle.machine.specs.Checks.{Lent, State, first_failing, session_checks, fill_checks, force, reach_of, whole, tight, open-question, question}
use Rattle.machine.proofs.Checks.Laws.{passed-append, standing-cases}
use Rattle.machine.specs.Machine.{Call, step, accept, reject, follow, refute, test, file, fill, Answer, finished, moved, asked, taken, followed, refuted, unrefuted, refuting, refused, Turn, turn, after_move, refuted_at, perform_step, performed, checks_of, perform, Opening, opened, rejected, opening, opening_state}

module _ (s : State) (c : Call) where
  pub perform-cases : (P : Turn → Type 0) → (first_failing (checks_of s c) ≡ none → P (performed s c))
      → ((r : Refusal) → first_failing (checks_of s c) ≡ some r → P (turn (refused r) s)) → P (perform s c)
  unfolding perform
  perform-cases P accepted refuse = go (first_failing (checks_of s c)) refl
    where
      go : (v : Option Refusal) → first_failing (checks_of s c) ≡ v → P (elim v [ none ↦ performed s c | some r ↦ turn (refused r) s ])
      go none e = accepted e
      go (some r) e = refuse r e

  pub perform-refused : (r : Refusal) → first_failing (checks_of s c) ≡ some r → perform s c ≡ turn (refused r) s
  unfolding perform
  perform-refused r e = rw (e, perform)

  pub perform-accepted : first_failing (checks_of s c) ≡ none → perform s c ≡ performed s c
  unfolding perform
  perform-accepted e = rw (e, perform)

-- a step's answer that is not Finished
not-finished-moved : moved ≡ finished → ⊥
not-finished-moved e = let z : ◌≡◌ {A = ℕ} 0 1 = cc in omega arith

not-finished-asked : (q : Implication ℕ) → asked q ≡ finished → ⊥
not-finished-asked q e = let z : ◌≡◌ {A = ℕ} 0 1 = cc in omega arith

not-finished-refused : (r : Refusal) → refused r ≡ finished → ⊥
not-finished-refused r e = let z : ◌≡◌ {A = ℕ} 0 1 = cc in omega arith

module _ (s : State) where
  pub step-cases : (P : Turn → Type 0) → (s.current ≡ full s.n → P (turn finished s))
      → ((s.current ≡ full s.n → ⊥) → reach_of s ≡ s.current → P (turn moved (after_move s)))
      → ((s.current ≡ full s.n → ⊥) → (reach_of s ≡ s.current → ⊥) → P (turn (asked (question s)) s)) → P (perform_step s)
  unfolding perform_step
  step-cases P done moves asks =
      standing-cases s (λ x. P (elim x as (λ y. Turn) [
        | whole ↦ turn finished s
        | tight ↦ turn moved (after_move s)
        | open-question ↦ turn (asked (question s)) s
      ])) done moves asks

  -- a step answers Finished only at M
  pub finished-full : (perform s step).answer ≡ finished → s.current ≡ full s.n
  unfolding performed
  finished-full = perform-cases s step (λ t. t.answer ≡ finished → s.current ≡ full s.n)
      (λ e. step-cases (λ t. t.answer ≡ finished → s.current ≡ full s.n) (λ f h. f)
      (λ n f h. absurd (not-finished-moved h)) (λ n f h. absurd (not-finished-asked _ h)))
      (λ r e h. absurd (not-finished-refused r h))

-- ---- refusals

-- answers that are no refusals
abbrev pub Answers : Answer → Type 0
Answers finished = Unit {0}
Answers moved = Unit {0}
Answers (asked q) = Unit {0}
Answers taken = Unit {0}
Answers (followed b) = Unit {0}
Answers (refuted p) = Unit {0}
Answers unrefuted = Unit {0}
Answers refuting = Unit {0}
Answers (refused r) = ⊥

pub no-refusal : (a : Answer) (r : Refusal) → Answers a → a ≡ refused r → ⊥
no-refusal a r h e = subst Answers e h

refuted-answers : (s : State) (q : Implication ℕ) → Answers (refuted_at (first_refuting (force s) s.rows q) (length s.rows))
unfolding refuted_at
refuted-answers s q = go (ltb (first_refuting (force s) s.rows q) (length s.rows))
  where
    go : (b : Bool) → Answers (elim b [ true ↦ refuted (first_refuting (force s) s.rows q) | false ↦ unrefuted ])
    go true = tt
    go false = tt

-- what an accepted call answers
pub performed-answers : (s : State) (c : Call) → Answers (performed s c).answer
unfolding performed
performed-answers s step = step-cases s (λ t. Answers t.answer) (λ d. tt) (λ n d. tt) (λ n d. tt)
performed-answers s accept = tt
performed-answers s (reject o) = tt
performed-answers s (follow q) = tt
performed-answers s (refute q) = refuted-answers s q
performed-answers s (test o) = tt
performed-answers s (file o) = tt
performed-answers s (fill k m) = tt

-- a refused call is refused by the first of its checks that fails
pub refused-failing : (s : State) (c : Call) (r : Refusal) → (perform s c).answer ≡ refused r → first_failing (checks_of s c) ≡ some r
refused-failing s c r =
    perform-cases s c (λ t. t.answer ≡ refused r → first_failing (checks_of s c) ≡ some r) (λ e h. absurd (no-refusal _ r (performed-answers s c) h))
    (λ x e h. let same : x ≡ r = cc in e ∙ ap some same)

-- a call that is not refused passes its checks
pub answered-passing : (s : State) (c : Call) → Answers (perform s c).answer → first_failing (checks_of s c) ≡ none
answered-passing s c = perform-cases s c (λ t. Answers t.answer → first_failing (checks_of s c) ≡ none) (λ e h. e) (λ r e h. absurd h)

-- a filling that passes its checks names a row in use
pub fill-used : (s : State) (k : ℕ) (m : Object) → first_failing (checks_of s (fill k m)) ≡ none → k < length s.rows
unfolding checks_of fill_checks
fill-used s k m e = leb-false (length s.rows) k (passed-append (session_checks s []) (fill_checks s k m) e).1.0

-- ---- the opening

-- an accepted opening leaves the state that it says, and passes the checks
pub opened-is : (n : ℕ) (lent : Lent) (background : List (Implication ℕ)) (rows : List Object) (s : State)
    → opening n lent background rows ≡ opened s
    → (s ≡ opening_state n lent background rows) × (first_failing (session_checks (opening_state n lent background rows) []) ≡ none)
unfolding opening
opened-is n lent background rows s = go (first_failing (session_checks (opening_state n lent background rows) [])) refl
  where
    go : (v : Option Refusal) → first_failing (session_checks (opening_state n lent background rows) []) ≡ v
        → elim v as (λ x. Opening) [ none ↦ opened (opening_state n lent background rows) | some r ↦ rejected r ] ≡ opened s
        → (s ≡ opening_state n lent background rows) × (first_failing (session_checks (opening_state n lent background rows) []) ≡ none)
    go none e h = (cc, e)
    go (some r) e h = absurd (let z : ◌≡◌ {A = ℕ} 0 1 = cc in omega arith)
