-- The rows of a run are those at its start, then the offered objects of the accepted no calls and filings in order, each with the marks of the
-- accepted fillings of its number; its list is the list at its start, then the questions of the accepted yes calls in order. n, lent lengths
-- and background stay as they are. A row as filled is the row with the marks of the fillings of its number (`row-filled`), and one that no
-- filling names stays as it is (`unfilled`).
-- All for every state and every list of calls.
use Rattle.std.specs.Prelude.{◌≡◌, refl, Bool, true, false, List, [], ◌∷◌, ◌++◌, ℕ, ◌<◌, length, eqb, ltb}
use Rattle.std.proofs.Common.{sym, ap, ◌∙◌, subst, append_assoc, append-nil, eqb-true}
use mathlib.Core.List.Memᴰ
use Rattle.std.proofs.Math.Option.{none, some}
use Rattle.std.proofs.lemmas.Bool.{eqb-false, not-false}
use Rattle.theory.specs.Lists.{All}
use Rattle.implication.specs.Closure.{follows}
use Rattle.attribute_set.proofs.Sets.Laws.{none-sub}
use Rattle.context.specs.Objects.{Object, object}
use Rattle.context.specs.Filling.{joined, object_at, filled_at}
use Rattle.context.proofs.Filling.Laws.{joined-in-turn, joined-known, filled-append, length-filled, filled-here, filled-other}
use Rattle.machine.specs.Checks.{State, force, question, first_failing, session_checks, yes_checks}
use Rattle.machine.proofs.Checks.Laws.{passed-append, none-failing, Stands, stands}
use Rattle.machine.specs.Machine.{Call, step, accept, reject, follow, refute, test, file, fill, Answer, finished, moved, asked, followed, refuted, unrefuted, refuting, refused, Turn, turn, performed, checks_of, perform, run, refuted_at}
use Rattle.machine.proofs.Machine.Laws.{perform-cases, perform-accepted, fill-used, step-cases}
use Rattle.demands.specs.Replies.{Reply, agreed, offered, filled, asked_by, question_at, is_taken, agreed_to, made_by, reply_of, replies, agreed_in, offered_in, filled_by, marks_for, FillsOther}

-- ---- what no call alters

pub record Same (s s' : State) : Type 0 where
  pub n : s'.n ≡ s.n
  pub lent : s'.lent ≡ s.lent
  pub background : s'.background ≡ s.background

perform-same : (s : State) (c : Call) → Same s (perform s c).after
unfolding performed
perform-same s c = perform-cases s c (λ t. Same s t.after) (λ e. performed-same c) (λ r e. record { n = refl; lent = refl; background = refl })
  where
    performed-same : (d : Call) → Same s (performed s d).after
    performed-same step = step-cases s (λ t. Same s t.after) (λ e. record { n = refl; lent = refl; background = refl })
        (λ a b. record { n = refl; lent = refl; background = refl }) (λ a b. record { n = refl; lent = refl; background = refl })
    performed-same accept = record { n = refl; lent = refl; background = refl }
    performed-same (reject o) = record { n = refl; lent = refl; background = refl }
    performed-same (follow r) = record { n = refl; lent = refl; background = refl }
    performed-same (refute r) = record { n = refl; lent = refl; background = refl }
    performed-same (test o) = record { n = refl; lent = refl; background = refl }
    performed-same (file o) = record { n = refl; lent = refl; background = refl }
    performed-same (fill k m) = record { n = refl; lent = refl; background = refl }

pub run-same : (s : State) (calls : List Call) → Same s (run s calls)
unfolding run
run-same s [] = record { n = refl; lent = refl; background = refl }
run-same s (c ∷ calls) =
    let a = perform-same s c in
    let b = run-same (perform s c).after calls in
    record { n = b.n ∙ a.n; lent = b.lent ∙ a.lent; background = b.background ∙ a.background }

-- ---- lists of replies

offered-append : (xs ys : List Reply) → offered_in (xs ++ ys) ≡ offered_in xs ++ offered_in ys
unfolding offered_in
offered-append [] ys = refl
offered-append (agreed q ∷ xs) ys = offered-append xs ys
offered-append (offered o ∷ xs) ys = ap (λ l. o ∷ l) (offered-append xs ys)
offered-append (filled k m ∷ xs) ys = offered-append xs ys

agreed-append : (xs ys : List Reply) → agreed_in (xs ++ ys) ≡ agreed_in xs ++ agreed_in ys
unfolding agreed_in
agreed-append [] ys = refl
agreed-append (agreed q ∷ xs) ys = ap (λ l. q ∷ l) (agreed-append xs ys)
agreed-append (offered o ∷ xs) ys = agreed-append xs ys
agreed-append (filled k m ∷ xs) ys = agreed-append xs ys

filled-in-turn : (xs ys : List Reply) (os : List Object) → filled_by (xs ++ ys) os ≡ filled_by ys (filled_by xs os)
unfolding filled_by
filled-in-turn [] ys os = refl
filled-in-turn (agreed q ∷ xs) ys os = filled-in-turn xs ys os
filled-in-turn (offered o ∷ xs) ys os = filled-in-turn xs ys os
filled-in-turn (filled k m ∷ xs) ys os = filled-in-turn xs ys (filled_at k m os)

pub length-filled-by : (rs : List Reply) (os : List Object) → length (filled_by rs os) ≡ length os
unfolding filled_by
length-filled-by [] os = refl
length-filled-by (agreed q ∷ rs) os = length-filled-by rs os
length-filled-by (offered o ∷ rs) os = length-filled-by rs os
length-filled-by (filled k m ∷ rs) os = length-filled-by rs (filled_at k m os) ∙ length-filled m k os

-- a row as filled is the row with the marks of the fillings of its number
pub row-filled : (k : ℕ) (rs : List Reply) (os : List Object) → k < length os → object_at (filled_by rs os) k ≡ joined (object_at os k) (marks_for k rs)
unfolding filled_by marks_for
row-filled k [] os h = sym (joined-known (object_at os k) (object 0 0) (none-sub _) (none-sub _))
row-filled k (agreed q ∷ rs) os h = row-filled k rs os h
row-filled k (offered o ∷ rs) os h = row-filled k rs os h
row-filled k (filled j m ∷ rs) os h = row-filled k rs (filled_at j m os) (rw length-filled h) ∙ go (eqb k j) refl
  where
    later : Object
    later = marks_for k rs

    go : (b : Bool) → eqb k j ≡ b
        → joined (object_at (filled_at j m os) k) later ≡ joined (object_at os k) (elim b as (λ x. Object) [ true ↦ joined m later | false ↦ later ])
    go true e =
        let here = subst (λ i. object_at (filled_at i m os) k ≡ joined (object_at os k) m) (eqb-true k j e) (filled-here m k os h) in
        ap (λ o. joined o later) here ∙ joined-in-turn (object_at os k) m later
    go false e = ap (λ o. joined o later) (filled-other m j k os (eqb-false k j e))

pub unfilled : (k : ℕ) (rs : List Reply) (os : List Object) → All (FillsOther k) rs → object_at (filled_by rs os) k ≡ object_at os k
unfolding filled_by
unfilled k [] os h = refl
unfilled k (agreed q ∷ rs) os h = unfilled k rs os (λ r t. h r (Memᴰ.tail t))
unfilled k (offered o ∷ rs) os h = unfilled k rs os (λ r t. h r (Memᴰ.tail t))
unfilled k (filled j m ∷ rs) os h =
    unfilled k rs (filled_at j m os) (λ r t. h r (Memᴰ.tail t)) ∙ filled-other m j k os (h (filled j m) (Memᴰ.head refl))

-- ---- one call

-- where checks 1 to 7 pass and a question stands, it is what a step asks
pub question-asked : (s : State) → first_failing (session_checks s []) ≡ none → Stands s → question_at s ≡ some (question s)
unfolding question_at asked_by performed checks_of
question-asked s e h =
    ap (λ (t : Turn). asked_by t.answer) (perform-accepted s step e)
    ∙ step-cases s (λ t. asked_by t.answer ≡ some (question s)) (λ f. absurd (h.below f)) (λ a b. absurd (h.differs b)) (λ a b. refl)

-- the reply, of a turn
abbrev pub reply_at : State → Call → Turn → List Reply
reply_at s c t = elim (is_taken t.answer) [ true ↦ made_by s c | false ↦ [] ]

-- what one call adds to rows and list; of the rows also where others stand behind them
pub record Adds (s : State) (c : Call) (t : Turn) : Type 0 where
  pub rows : (more : List Object) → t.after.rows ++ more ≡ filled_by (reply_at s c t) (s.rows ++ (offered_in (reply_at s c t) ++ more))
  pub list : t.after.list ≡ s.list ++ agreed_in (reply_at s c t)

adds-nothing : (s : State) (c : Call) (a : Answer) (s' : State) → is_taken a ≡ false → s'.rows ≡ s.rows → s'.list ≡ s.list
    → Adds s c (turn a s')
unfolding offered_in agreed_in filled_by
adds-nothing s c a s' e r l =
    let none' : reply_at s c (turn a s') ≡ [] = ap (λ b. elim b as (λ x. List Reply) [ true ↦ made_by s c | false ↦ [] ]) e in
    record {
      rows = λ more. ap (λ l. l ++ more) r ∙ ap (λ l. filled_by l (s.rows ++ (offered_in l ++ more))) (sym none');
      list = l ∙ sym (append-nil s.list) ∙ ap (λ l. s.list ++ agreed_in l) (sym none');
    }

refuted-untaken : (p k : ℕ) → is_taken (refuted_at p k) ≡ false
unfolding refuted_at is_taken
refuted-untaken p k = go (ltb p k)
  where
    go : (b : Bool) → is_taken (elim b [ true ↦ refuted p | false ↦ unrefuted ]) ≡ false
    go true = refl
    go false = refl

performed-adds : (s : State) (c : Call) → first_failing (checks_of s c) ≡ none → Adds s c (performed s c)
unfolding performed checks_of is_taken made_by offered_in agreed_in filled_by yes_checks
performed-adds s step e = step-cases s (Adds s step) (λ f. adds-nothing s step finished s refl refl refl)
    (λ a b. adds-nothing s step moved _ refl refl refl) (λ a b. adds-nothing s step (asked (question s)) s refl refl refl)
performed-adds s accept e =
    let p = passed-append (session_checks s []) (yes_checks s) e in
    let q = question-asked s (none-failing (session_checks s []) p.0) (stands s (not-false _ p.1.0)) in
    record {
      rows = λ more. ap (λ o. filled_by (agreed_to o) (s.rows ++ (offered_in (agreed_to o) ++ more))) (sym q);
      list = ap (λ o. s.list ++ agreed_in (agreed_to o)) (sym q);
    }
performed-adds s (reject o) e = record { rows = append_assoc s.rows (o ∷ []); list = sym (append-nil s.list) }
performed-adds s (follow r) e = adds-nothing s (follow r) (followed (follows (force s) r)) s refl refl refl
performed-adds s (refute r) e = adds-nothing s (refute r) _ s (refuted-untaken _ _) refl refl
performed-adds s (test o) e = adds-nothing s (test o) refuting s refl refl refl
performed-adds s (file o) e = record { rows = append_assoc s.rows (o ∷ []); list = sym (append-nil s.list) }
performed-adds s (fill k m) e = record { rows = λ more. filled-append m k s.rows more (fill-used s k m e); list = sym (append-nil s.list) }

pub perform-adds : (s : State) (c : Call) → Adds s c (perform s c)
unfolding is_taken
perform-adds s c = perform-cases s c (Adds s c) (performed-adds s c) (λ r e. adds-nothing s c (refused r) s refl refl refl)

-- ---- a run

pub run-rows : (s : State) (calls : List Call) → (run s calls).rows ≡ filled_by (replies s calls) (s.rows ++ offered_in (replies s calls))
unfolding run replies reply_of offered_in filled_by
run-rows s [] = sym (append-nil s.rows)
run-rows s (c ∷ calls) =
    let first = reply_of s c in
    let later = replies (perform s c).after calls in
    run-rows (perform s c).after calls ∙ ap (filled_by later) ((perform-adds s c).rows (offered_in later))
    ∙ sym (filled-in-turn first later (s.rows ++ (offered_in first ++ offered_in later)))
    ∙ ap (λ l. filled_by (first ++ later) (s.rows ++ l)) (sym (offered-append first later))

pub run-list : (s : State) (calls : List Call) → (run s calls).list ≡ s.list ++ agreed_in (replies s calls)
unfolding run replies reply_of agreed_in
run-list s [] = sym (append-nil s.list)
run-list s (c ∷ calls) =
    run-list (perform s c).after calls
    ∙ ap (λ l. l ++ agreed_in (replies (perform s c).after calls)) (perform-adds s c).list
    ∙ append_assoc s.list (agreed_in (reply_of s c)) (agreed_in (replies (perform s c).after calls))
    ∙ ap (λ l. s.list ++ l) (sym (agreed-append (reply_of s c) (replies (perform s c).after calls)))
