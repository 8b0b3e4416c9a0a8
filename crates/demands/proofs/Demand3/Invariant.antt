-- Every call keeps the invariant of the walk: from an accepted opening on, the state is explored in the sense of the theory,
-- the implications in force are over M, and no row contradicts them (`run-reached`).
use Rattle.std.specs.Prelude.{◌≡◌, refl, false, ℕ}
use Rattle.std.proofs.Common.{sym, subst, ⊎_elim}
use mathlib.Core.List.{List, [], ◌∷◌, ◌++◌, Memᴰ, append_assoc}
use Rattle.std.proofs.Math.Option.{none}
use Rattle.std.proofs.lemmas.Bool.{not-false}
use Rattle.theory.specs.Lists.{All}
use Rattle.theory.proofs.Lists.Laws.{all_nil, all_append, all_take, all_drop, all_snoc}
use Rattle.theory.specs.Implications.{Implication, Over, Background}
use Rattle.theory.specs.Canonical.{Model}
use Rattle.theory.specs.Exploration.{Next, Sound, Explored}
use Rattle.theory.proofs.Exploration.Steps.{start, move, accept, shrink}
use Rattle.theory.proofs.Exploration.Result.{closure-model}
use Rattle.attribute_set.specs.Sets.{Sub, Apart, full}
use Rattle.attribute_set.proofs.Sets.Laws.{sub_refl, sub_trans, sub-antisym, none-sub, without_sub, without-apart, without-or, apart-sub, or-least}
use Rattle.attribute_set.specs.Lectic.{Before}
use Rattle.attribute_set.proofs.Lectic.Laws.{before-irreflexive, before-trans, sub-not-before}
use Rattle.attribute_set.proofs.Words.{words}
use Rattle.implication.specs.Closure.{closure}
use Rattle.implication.proofs.Closure.Laws.{closure-least, closure-inside}
use Rattle.next_set.specs.Next.{next}
use Rattle.next_set.proofs.Next.Laws.{next-is}
use Rattle.context.proofs.Places.Laws.{anywhere-false}
use Rattle.context.specs.Objects.{Object, has, lacks, contradicts}
use Rattle.context.proofs.Objects.Laws.{consistent-apart, has_more, lacks-more}
use Rattle.reach.specs.Reach.{reach}
use Rattle.context.specs.Filling.{joined, object_at, filled_at}
use Rattle.context.proofs.Filling.Laws.{all-filled}
use Rattle.reach.proofs.Reach.Laws.{reach-great, reach-inside, reach-snoc, reach-filled, reach-more}
use Rattle.machine.specs.Checks.{Lent, State, force, reach_of, question, with_question, first_failing, session_checks, yes_checks, filing_checks, fill_checks}
use Rattle.machine.proofs.Checks.Laws.{passed, none-failing, passed-append, no_both, Valid, valid, Stands, stands}
use Rattle.machine.specs.Machine.{Call, step, accept as accepting, reject, follow, refute, test, file, fill, after_move, after_yes, after_filing, after_fill, performed, checks_of, perform, run, opening, opened, opening_state}
use Rattle.machine.proofs.Machine.Laws.{perform-cases, step-cases, opened-is}

-- the sets of the background
abbrev pub Base : State → ℕ → Type 0
Base s = Background words (full s.n) s.background

pub record Reached (s : State) : Type 0 where
  pub over : All (Over words (full s.n)) (force s)
  pub consistent : All (λ o. contradicts (force s) o ≡ false) s.rows
  pub explored : Explored words (Base s) (reach (force s) s.n s.rows) s.list s.current

-- ---- the theory's premises, from what the machine computes

module _ (n : ℕ) (B l : List (Implication ℕ)) (over : All (Over words (full n)) (B ++ l)) where
  -- the next closed set is the next model
  next-model : (x : ℕ) → Sub x (full n) → (x ≡ full n → ⊥) → Next words (Model words (Background words (full n) B) l) x (next (B ++ l) n x)
  next-model x h ne =
      let t = next-is (B ++ l) n x over h ne in
      record {
        later = t.later;
        member = record { base = record { inside = t.inside; closed = all_take B l t.closed }; closed = all_drop B l t.closed };
        gap = λ q m b c. ⊎_elim
            (λ e. before-irreflexive q (subst (λ y. Before q y) e c)) (λ d. before-irreflexive q (before-trans c d))
            (t.first q (all_append B l m.base.closed m.closed) m.base.inside b);
      }

  -- where no row that has q lacks anything of q's closure, the reach is sound
  sound-rows : (rs : List (Implication ℕ)) (rows : List Object)
      → ((o : Object) → Memᴰ o rows → (q : ℕ) → Sub q (has rs o) → Apart (closure (B ++ l) q) (lacks rs o))
      → Sound words (Background words (full n) B) l (reach rs n rows)
  sound-rows rs rows apart q x b f =
      let c = closure-model words (full n) B (all_take B l over) l (all_drop B l over) closure closure-least q b.inside in
      sub_trans (f (closure (B ++ l) q) c.member c.above)
      (reach-great rs n rows q (closure-inside (B ++ l) n over b.inside) (λ o m h. apart o m q h))

-- ---- the opening

pub opening-reached : (n : ℕ) (lent : Lent) (B : List (Implication ℕ)) (rows : List Object)
    → Valid (opening_state n lent B rows) → Reached (opening_state n lent B rows)
opening-reached n lent B rows v =
    let c = closure-least B 0 in
    record {
      over = v.over;
      consistent = v.consistent;
      explored = start words (Background words (full n) B) (reach (B ++ []) n rows) (closure B 0)
          (sound-rows n B [] v.over (B ++ []) rows (λ o m q h. consistent-apart (B ++ []) o (v.consistent o m) h))
          (record { base = record { inside = v.current; closed = c.member }; closed = all_nil _ })
          (λ q m b. sub-not-before (c.least q m.base.closed (none-sub q)) b);
    }

-- ---- the calls

module _ (s : State) (h : Reached s) where
  pub current_in : Sub s.current (full s.n)
  current_in = h.explored.here.base.inside

  pub moved-reached : (s.current ≡ full s.n → ⊥) → reach_of s ≡ s.current → Reached (after_move s)
  moved-reached ne e = record {
    over = h.over;
    consistent = h.consistent;
    explored = move words (Base s) h.explored (subst (λ x. Sub x s.current) (sym e) (sub_refl s.current))
        (next-model s.n s.background s.list h.over s.current current_in ne);
  }

  question-over : Over words (full s.n) (question s)
  question-over = record {
    premise = current_in;
    conclusion = sub_trans (without_sub (reach_of s) s.current) (reach-inside (force s) s.n s.rows s.current);
  }

  with-question : force s ++ (question s ∷ []) ≡ with_question s
  with-question = append_assoc s.background s.list (question s ∷ [])

  pub with-over : All (Over words (full s.n)) (with_question s)
  with-over = subst (λ l. All (Over words (full s.n)) l) with-question (all_snoc (force s) (question s) h.over question-over)

  -- the current set lies in its reach
  current-reached : Sub s.current (reach_of s)
  current-reached = h.explored.sound s.current s.current h.explored.here.base (λ z m i. i)

  -- the question's conclusion is new
  pub question-new : Stands s → Sub (question s).conclusion s.current → ⊥
  question-new t i =
      t.differs (sub-antisym (sub_trans (without-or (reach_of s) s.current) (or-least (sub_refl s.current) i)) current-reached)

  pub yes-reached : Stands s → All (λ o. contradicts (with_question s) o ≡ false) s.rows → Reached (after_yes s)
  yes-reached t ok = record {
    over = with-over;
    consistent = ok;
    explored = shrink words (Base s)
        (accept words (Base s) (question s) h.explored refl (question-new t) (without-apart (reach_of s) s.current)
        (without-or (reach_of s) s.current)
        (sound-rows s.n s.background (s.list ++ (question s ∷ [])) with-over (force s) s.rows (λ o m q i.
        subst (λ l. Apart (closure l q) (lacks (force s) o)) with-question
        (apart-sub (sub_refl _) (lacks-more (force s) (question s ∷ []) o)
        (consistent-apart (force s ++ (question s ∷ [])) o (subst (λ l. contradicts l o ≡ false) (sym with-question) (ok o m)) (sub_trans i (has_more (force s) (question s ∷ []) o))))))
        (next-model s.n s.background (s.list ++ (question s ∷ [])) with-over s.current current_in t.below))
        (λ q. subst (λ l. Sub (reach l s.n s.rows q) (reach (force s) s.n s.rows q)) with-question
        (reach-more (force s) (question s ∷ []) s.n s.rows q))
        (sound-rows s.n s.background (s.list ++ (question s ∷ [])) with-over (with_question s) s.rows
        (λ o m q i. consistent-apart (with_question s) o (ok o m) i));
  }

  -- one row more that does not contradict: a filing, and so a no
  pub filed-reached : (o : Object) → contradicts (force s) o ≡ false → Reached (after_filing s o)
  filed-reached o ok =
      let all = all_snoc s.rows o h.consistent ok in
      record {
        over = h.over;
        consistent = all;
        explored = shrink words (Base s) h.explored (λ q. reach-snoc (force s) s.n s.rows q o)
            (sound-rows s.n s.background s.list h.over (force s) (s.rows ++ (o ∷ [])) (λ p m q i. consistent-apart (force s) p (all p m) i));
      }

  filing-reached : (o : Object) → first_failing (filing_checks s o) ≡ none → Reached (after_filing s o)
  unfolding filing_checks
  filing-reached o e = filed-reached o (passed (filing_checks s o) e).1.0

  -- marks added to a row that does not contradict with them
  pub filled-reached : (k : ℕ) (m : Object) → contradicts (force s) (joined (object_at s.rows k) m) ≡ false → Reached (after_fill s k m)
  filled-reached k m ok =
      let all = all-filled m k s.rows h.consistent ok in
      record {
        over = h.over;
        consistent = all;
        explored = shrink words (Base s) h.explored (λ q. reach-filled (force s) s.n s.rows q k m)
            (sound-rows s.n s.background s.list h.over (force s) (filled_at k m s.rows) (λ p t q i. consistent-apart (force s) p (all p t) i));
      }

  performed-reached : (c : Call) → first_failing (checks_of s c) ≡ none → Reached (performed s c).after
  unfolding performed checks_of yes_checks fill_checks
  performed-reached step e = step-cases s (λ t. Reached t.after) (λ f. h) moved-reached (λ a b. h)
  performed-reached accepting e =
      let p = (passed-append (session_checks s []) (yes_checks s) e).1 in
      yes-reached (stands s (not-false _ p.0)) (anywhere-false _ s.rows p.1.0)
  performed-reached (reject o) e = filing-reached o (no_both s o e).1
  performed-reached (follow r) e = h
  performed-reached (refute r) e = h
  performed-reached (test o) e = h
  performed-reached (file o) e = filing-reached o (none-failing _ (passed-append (session_checks s []) (filing_checks s o) e).1)
  performed-reached (fill k m) e = filled-reached k m (passed-append (session_checks s []) (fill_checks s k m) e).1.1.1.1.0

pub perform-reached : (s : State) (c : Call) → Reached s → Reached (perform s c).after
perform-reached s c h = perform-cases s c (λ t. Reached t.after) (performed-reached s h c) (λ r e. h)

pub run-reached : (s : State) (calls : List Call) → Reached s → Reached (run s calls)
unfolding run
run-reached s [] h = h
run-reached s (c ∷ calls) h = run-reached (perform s c).after calls (perform-reached s c h)

-- an accepted opening
pub opened-reached : (n : ℕ) (lent : Lent) (B : List (Implication ℕ)) (rows : List Object) (s : State) → opening n lent B rows ≡ opened s → Reached s
opened-reached n lent B rows s e =
    let t = opened-is n lent B rows s e in
    subst (λ x. Reached x) (sym t.0) (opening-reached n lent B rows (valid _ [] (passed _ t.1)))
