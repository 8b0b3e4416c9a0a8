-- Demand 3, points 2 to 5: after every accepted opening and every list of calls, refused ones included,
-- the rows and the list are those of the accepted replies, filings and fillings, a finished interview decides every implication over M, the list is
-- as short as any with the same consequences, and truthful finished interviews over one complete table end in the same list.
use Rattle.std.specs.Prelude.{◌≡◌, refl, ◌↔◌, Bool, true, false, List, [], ◌∷◌, ◌++◌, ℕ, ◌≤◌, length}
use Rattle.std.proofs.Common.{sym, ap, ◌∙◌, subst, true≢false}
use mathlib.Core.List.Memᴰ
use Rattle.theory.specs.Lists.{All}
use Rattle.theory.proofs.Lists.Laws.{all_nil, all_cons, all_append, all_take, all_drop}
use Rattle.theory.specs.Implications.{Implication, Background, Closed, Least}
use Rattle.theory.proofs.Implications.Laws.{≡-dec}
use Rattle.theory.specs.Canonical.{Model, Canonical}
use Rattle.theory.proofs.Canonical.Minimal.{minimal-list}
use Rattle.theory.proofs.Canonical.Unique.{unique-list}
use Rattle.theory.specs.Exploration.{Explored}
use Rattle.theory.proofs.Exploration.Result as result
use Rattle.attribute_set.specs.Sets.{Sub, full}
use Rattle.attribute_set.proofs.Sets.Laws.{sub_trans}
use Rattle.attribute_set.proofs.Words.{words}
use Rattle.implication.specs.Closure.{implication, closure, follows}
use Rattle.implication.proofs.Closure.Laws.{closure-least, follows-sub, sub-follows}
use Rattle.context.specs.Objects.{Object, refutes}
use Rattle.context.proofs.Objects.Laws.{not-refutes, consistent-spares}
use Rattle.reach.specs.Reach.{reach}
use Rattle.reach.proofs.Reach.Laws.{reach-great}
use Rattle.context.specs.Tables.{Table, AgreesImplication, AgreesObject}
use Rattle.context.proofs.Tables.Laws.{agreeing-closed, follows-tables, refutes-extended}
use Rattle.machine.specs.Checks.{Lent, State, force}
use Rattle.machine.specs.Machine.{Call, run, opening, opened, opening_state}
use Rattle.machine.proofs.Machine.Laws.{finished-full, opened-is}
use Rattle.demands.specs.Replies.{Reply, agreed, offered, filled, agreed_in, offered_in, filled_by, replies, AgreesReply, Truthful}
use Rattle.demands.proofs.Replies.Laws.{run-same, run-rows, run-list}
use Rattle.demands.specs.Demand3.{Finished, OverM, Unrefuted, SameConsequences, AfterCalls, SameList, Demand3}
use Rattle.demands.proofs.Demand3.Invariant.{Base, Reached, run-reached, opened-reached}

-- the same implications follow: the same sets lie in the closures
consequences : (n : ℕ) (background l l' : List (Implication ℕ)) → SameConsequences n background l l'
    → (x y : ℕ) → Sub x (full n) → Sub y (full n) → (Sub y (closure (background ++ l) x)) ↔ (Sub y (closure (background ++ l') x))
consequences n background l l' same x y i j =
    let r = implication x y in
    let t = same r (record { premise = i; conclusion = j }) in (
      λ k. follows-sub (background ++ l') r (t.0 (sub-follows (background ++ l) r k)),
      λ k. follows-sub (background ++ l) r (t.1 (sub-follows (background ++ l') r k)),
    )

-- ---- in a state that the interview has reached

module _ (s : State) (h : Reached s) where
  -- the closure under the implications in force is the least model
  least-model : (q : ℕ) → Sub q (full s.n) → Least words (Model words (Base s) s.list) q (closure (force s) q)
  least-model q i =
      result.closure-model words (full s.n) s.background (all_take s.background s.list h.over) s.list
      (all_drop s.background s.list h.over) closure closure-least q i

  -- 3.
  pub decided : Finished s → (r : Implication ℕ) → OverM s.n r → (follows (force s) r ≡ true) ↔ Unrefuted s r
  decided done r over = (holds, back)
    where
      holds : follows (force s) r ≡ true → Unrefuted s r
      holds e o m = consistent-spares (force s) o r (h.consistent o m) e

      at-end : Explored words (Base s) (reach (force s) s.n s.rows) s.list (full s.n)
      at-end = subst (λ q. Explored words (Base s) (reach (force s) s.n s.rows) s.list q) (finished-full s done) h.explored

      c : ℕ
      c = closure (force s) r.premise

      l : Least words (Model words (Base s) s.list) r.premise c
      l = least-model r.premise over.premise

      back : Unrefuted s r → follows (force s) r ≡ true
      back u = sub-follows (force s) r (go (≡-dec words c (full s.n)))
        where
          go : Dec (c ≡ full s.n) → Sub r.conclusion c
          go (yes e) = subst (λ x. Sub r.conclusion x) (sym e) over.conclusion
          go (no n) = sub_trans (reach-great (force s) s.n s.rows c over.conclusion
              (λ o m i. not-refutes (force s) o r (u o m) (sub_trans l.above i)))
              (result.finished words (Base s) (full s.n) (λ q b. b.inside) at-end c l.member n)

  canonical-list : Canonical words (Base s) s.list
  canonical-list = result.canonical words (Base s) h.explored (closure (force s)) (λ q b. least-model q b.inside)

  -- 4.
  pub shortest : (l : List (Implication ℕ)) → All (OverM s.n) l → SameConsequences s.n s.background s.list l → length s.list ≤ length l
  shortest l over same =
      minimal-list words (full s.n) s.background closure closure-least s.list l canonical-list over (consequences s.n s.background s.list l same)

-- ---- truthful interviews

-- the agreed implications hold in a table that agrees with the replies
agreed-all : (t : List Object) (rs : List Reply) → All (AgreesReply t) rs → All (AgreesImplication t) (agreed_in rs)
unfolding agreed_in
agreed-all t [] h = all_nil _
agreed-all t (agreed q ∷ rs) h = all_cons (h (agreed q) (Memᴰ.head refl)) (agreed-all t rs (λ r m. h r (Memᴰ.tail m)))
agreed-all t (offered o ∷ rs) h = agreed-all t rs (λ r m. h r (Memᴰ.tail m))
agreed-all t (filled k m ∷ rs) h = agreed-all t rs (λ r i. h r (Memᴰ.tail i))

-- an object of which a table that agrees with the implications in force has a completion refutes nothing that holds in the table
unrefuted-by : (n : ℕ) (t : List Object) (rs : List (Implication ℕ)) → Table n t → All (OverM n) rs → All (AgreesImplication t) rs
    → (o : Object) (r : Implication ℕ) → OverM n r → AgreesObject t o → AgreesImplication t r → refutes rs o r ≡ false
unrefuted-by n t rs table over agrees o r i a h = go (refutes rs o r) refl
  where
    closed : Closed words rs a.by.yes_marks
    closed = agreeing-closed n t rs table over agrees a.by a.member

    go : (b : Bool) → refutes rs o r ≡ b → b ≡ false
    go true e = absurd (true≢false (sym (refutes-extended n rs r i (table a.by a.member) closed a.extends e) ∙ h a.by a.member))
    go false e = refl

-- after a finished interview just those implications follow that hold in a table to which it was truthful
module _ (n : ℕ) (lent : Lent) (background : List (Implication ℕ)) (rows : List Object) (start : State)
    (o : opening n lent background rows ≡ opened start) (calls : List Call) where
  abbrev end : State
  end = run start calls

  reached : Reached end
  reached = run-reached start calls (opened-reached n lent background rows start o)

  is-start : start ≡ opening_state n lent background rows
  is-start = (opened-is n lent background rows start o).0

  end-n : end.n ≡ n
  end-n = (run-same start calls).n ∙ ap (λ (x : State). x.n) is-start

  end-background : end.background ≡ background
  end-background = (run-same start calls).background ∙ ap (λ (x : State). x.background) is-start

  end_list : end.list ≡ agreed_in (replies start calls)
  end_list = run-list start calls ∙ ap (λ (x : State). x.list ++ agreed_in (replies start calls)) is-start

  after_calls : AfterCalls n lent background rows start calls
  after_calls = record {
    same_n = end-n;
    same_lent = (run-same start calls).lent ∙ ap (λ (x : State). x.lent) is-start;
    same_background = end-background;
    all_rows = run-rows start calls ∙ ap (λ (x : State). filled_by (replies start calls) (x.rows ++ offered_in (replies start calls))) is-start;
    all_list = end_list;
    decided = λ f r i. rw (← end-background) (decided end reached f r (rw end-n i));
    shortest = λ l i same. shortest end reached l (rw end-n i) (rw (end-n, end-background) same);
  }

  canonical-end : Canonical words (Background words (full n) background) end.list
  canonical-end = subst (λ b. Canonical words (Background words (full n) b) end.list) end-background
      (subst (λ k. Canonical words (Background words (full k) end.background) end.list) end-n (canonical-list end reached))

  over-end : All (OverM n) (background ++ end.list)
  over-end = subst (λ b. All (OverM n) (b ++ end.list)) end-background (subst (λ k. All (OverM k) (force end)) end-n reached.over)

  true-end : Finished end → (t : List Object) → Truthful t start calls
      → (r : Implication ℕ) → OverM n r → (follows (background ++ end.list) r ≡ true) ↔ AgreesImplication t r
  true-end f t h r i = (
    λ e. (follows-tables n (background ++ end.list) over-end r i).0 e t complete rules,
    λ a. (after_calls.decided f r i).1 (λ x m. subst (λ b. refutes (b ++ end.list) x r ≡ false) (sym end-background)
        (unrefuted-by n t (background ++ end.list) complete over-end rules x r i (h.rows x m) a)),
  )
    where
      complete : Table n t
      complete = subst (λ (x : State). Table x.n t) is-start h.complete

      rules : All (AgreesImplication t) (background ++ end.list)
      rules = all_append background end.list (subst (λ (x : State). All (AgreesImplication t) x.background) is-start h.background)
          (subst (λ l. All (AgreesImplication t) l) (sym end_list) (agreed-all t (replies start calls) h.replied))

-- 5.
same_list : (n : ℕ) (background : List (Implication ℕ)) → SameList n background
same_list n background lent lent' rows rows' start start' o o' calls calls' f f' t h h' =
    unique-list words (full n) background closure closure-least (run start calls).list (run start' calls').list
    (canonical-end n lent background rows start o calls) (canonical-end n lent' background rows' start' o' calls')
    (consequences n background (run start calls).list (run start' calls').list (λ r i.
    let a = true-end n lent background rows start o calls f t h r i in
    let b = true-end n lent' background rows' start' o' calls' f' t h' r i in
    (λ k. b.1 (a.0 k), λ k. a.1 (b.0 k))))

pub demand_3 : Demand3
demand_3 = record { after_calls = after_calls; same_list = same_list }
