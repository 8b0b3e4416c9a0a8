-- An implication follows just if it holds in every complete table that agrees with the implications (`follows-tables`).
-- A complete object refutes an implication just if its yes marks do not respect it; an object that does not contradict
-- the implications extends to a complete one that agrees with them (`completes`, `completed-agrees`), and only such an
-- object does (`no-contradiction`).
use Rattle.std.specs.Prelude.{◌≡◌, refl, ◌↔◌, Bool, true, false, ℕ}
use mathlib.Core.List.{List, [], ◌∷◌, Memᴰ}
use Rattle.theory.specs.Lists.{All}
use Rattle.theory.proofs.Lists.Laws.{all_nil, all_cons}
use Rattle.theory.specs.Implications.{Implication, Respects, Closed, Over}
use Rattle.attribute_set.specs.Sets.{In, Sub, Apart, full}
use Rattle.attribute_set.proofs.Sets.Laws.{sub_refl, sub_trans, sub-antisym, apart-sub, or_left, or_right, or-least, strip, without_sub, without-apart, without-great, without-or}
use Rattle.attribute_set.proofs.Lectic.Laws.{single-sub}
use Rattle.attribute_set.proofs.Words.{words}
use Rattle.implication.specs.Closure.{closure, follows}
use Rattle.implication.proofs.Closure.Laws.{closure-least, closure-inside, follows-sub, sub-follows}
use Rattle.context.specs.Objects.{Object, lacks, refutes, refutes_written, contradicts}
use Rattle.context.proofs.Objects.Laws.{has-least, apart-lacks, refutes-has, refutes-lacks, not_written, written-spares, contradicts-apart, apart-contradicts}
use Rattle.context.specs.Tables.{Complete, Table, completed, Extends, AgreesObject, AgreesImplication}

pub swap : {x y : ℕ} → Apart x y → Apart y x
swap h = record { at = λ i a b. h.at i b a }

-- ---- complete objects

pub completed-complete : (n : ℕ) {s : ℕ} → Sub s (full n) → Complete n (completed n s)
completed-complete n {s} h = record {
  whole = sub-antisym (or-least h (without_sub (full n) s)) (without-or (full n) s);
  apart = swap (without-apart (full n) s);
}

-- a complete object refutes what its yes marks do not respect, and nothing else
module _ {n : ℕ} {c : Object} (whole : Complete n c) where
  -- what it does not lack it has
  pub complete-strip : {x : ℕ} → Sub x (full n) → Apart x c.no_marks → Sub x c.yes_marks
  complete-strip h a =
      strip c.yes_marks a (sub_trans h (rw (← whole.whole) (or-least (or_right c.no_marks _) (or_left _ c.yes_marks))))

  pub complete-respects : {r : Implication ℕ} → Over words (full n) r → refutes_written c r ≡ false → Respects words r c.yes_marks
  complete-respects {r} over e h = complete-strip over.conclusion (not_written c r e h)

  pub respects-spares : {r : Implication ℕ} → Respects words r c.yes_marks → refutes_written c r ≡ false
  respects-spares {r} h = written-spares c r (λ k. apart-sub (h k) (sub_refl _) whole.apart)

-- ---- tables

-- the objects of a table that agrees with the implications are closed
pub agreeing-closed : (n : ℕ) (t : List Object) (rs : List (Implication ℕ)) → Table n t → All (Over words (full n)) rs → All (AgreesImplication t) rs
    → (c : Object) → Memᴰ c t → Closed words rs c.yes_marks
agreeing-closed n t rs table over agrees c m r k = complete-respects (table c m) (over r k) (agrees r k c m)

-- where a table agrees with the implications and with o, o does not contradict them
pub no-contradiction : (n : ℕ) (t : List Object) (rs : List (Implication ℕ)) (o : Object) → Table n t → All (Over words (full n)) rs
    → All (AgreesImplication t) rs → AgreesObject t o → contradicts rs o ≡ false
no-contradiction n t rs o table over agrees a =
    apart-contradicts rs o
    (apart-sub
    ((closure-least rs o.yes_marks).least a.by.yes_marks (agreeing-closed n t rs table over agrees a.by a.member) a.extends.yes_marks)
    a.extends.no_marks (table a.by a.member).apart)

-- a set above the yes marks of an object and apart from its no marks, completed, has all its marks
pub completes-set : (n : ℕ) {o : Object} {s : ℕ} → Sub o.yes_marks s → Sub o.no_marks (full n) → Apart s o.no_marks → Extends o (completed n s)
completes-set n above inside apart = record { yes_marks = above; no_marks = without-great inside (swap apart) }

-- so has the closure of its yes marks, where it does not contradict the implications
pub completes : (n : ℕ) (rs : List (Implication ℕ)) (o : Object) → Sub o.no_marks (full n) → contradicts rs o ≡ false
    → Extends o (completed n (closure rs o.yes_marks))
completes n rs o h e = completes-set n (closure-least rs o.yes_marks).above h (contradicts-apart rs o e)

-- the completion of a closed set refutes no implication
pub completed-agrees : (n : ℕ) (rs : List (Implication ℕ)) {s : ℕ} → Closed words rs s → All (λ r. refutes_written (completed n s) r ≡ false) rs
completed-agrees n rs {s} closed r m =
    written-spares (completed n s) r (λ k. apart-sub (closed r m k) (sub_refl _) (swap (without-apart (full n) s)))

-- what an object refutes where the implications are in force, a complete one that extends it and respects them refutes by its own marks
pub refutes-extended : (n : ℕ) (rs : List (Implication ℕ)) {o c : Object} (r : Implication ℕ) → Over words (full n) r → Complete n c
    → Closed words rs c.yes_marks → Extends o c → refutes rs o r ≡ true → refutes_written c r ≡ true
refutes-extended n rs {o} {c} r over whole closed h e = go (refutes_written c r) refl
  where
    has-premise : Sub r.premise c.yes_marks
    has-premise = sub_trans (refutes-has rs o r e) ((has-least rs o).least c.yes_marks closed h.yes_marks)

    lacked : (i : ℕ) × In i r.conclusion × In i (lacks rs o)
    lacked = refutes-lacks rs o r e

    -- the closure with the lacked attribute would lie in the yes marks of c, and it meets its no marks
    not-had : In lacked.0 c.yes_marks → ⊥
    not-had i =
        let inside = (closure-least rs _).least c.yes_marks closed (or-least h.yes_marks (single-sub lacked.0 _ i)) in
        apart-lacks rs o lacked.0 (apart-sub inside h.no_marks whole.apart) lacked.2

    go : (b : Bool) → refutes_written c r ≡ b → b ≡ true
    go true q = refl
    go false q = absurd (not-had ((complete-respects whole over q has-premise).at lacked.0 lacked.1))

-- ---- following

pub follows-tables : (n : ℕ) (rs : List (Implication ℕ)) → All (Over words (full n)) rs → (r : Implication ℕ) → Over words (full n) r
    → (follows rs r ≡ true) ↔ ((t : List Object) → Table n t → All (AgreesImplication t) rs → AgreesImplication t r)
follows-tables n rs over r h = (holds, found)
  where
    s : ℕ
    s = closure rs r.premise

    holds : follows rs r ≡ true → (t : List Object) → Table n t → All (AgreesImplication t) rs → AgreesImplication t r
    holds e t table agrees c m =
        respects-spares (table c m)
        (λ k. sub_trans (follows-sub rs r e)
        ((closure-least rs r.premise).least c.yes_marks (agreeing-closed n t rs table over agrees c m) k))

    -- the table whose one object has the closure of the premise
    found : ((t : List Object) → Table n t → All (AgreesImplication t) rs → AgreesImplication t r) → follows rs r ≡ true
    found f =
        let whole : Complete n (completed n s) = completed-complete n (closure-inside rs n over h.premise) in
        let none : refutes_written (completed n s) r ≡ false =
        f (completed n s ∷ []) (all_cons whole (all_nil _))
        (λ y m. all_cons (completed-agrees n rs (closure-least rs r.premise).member y m) (all_nil _)) (completed n s) (Memᴰ.head refl) in
        sub-follows rs r (complete-respects whole h none (closure-least rs r.premise).above)
