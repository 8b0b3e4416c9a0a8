-- Implied marks mean what complete objects have: an object that does not contradict has what every completion has and lacks what none
-- has; a complete one has and lacks what is written; one that contradicts lacks all.
use Rattle.std.specs.Prelude.{◌≡◌, refl, ◌⊎◌, ◌↔◌, Bool, true, false, List, ℕ, ◌^◌, ◌<◌, ◌≤◌}
use Rattle.std.proofs.Common.{sym, subst, inl, inr, ⊎_elim, arith}
use Rattle.std.specs.Int.Bits.{bit_or}
use Rattle.theory.specs.Lists.{All}
use Rattle.theory.specs.Implications.{Implication, Closed, Over}
use Rattle.attribute_set.specs.Sets.{digit, In, Sub, Apart, full, meets}
use Rattle.attribute_set.proofs.Sets.Laws.{lt-or-le, member-cases, sub_refl, sub_trans, sub-antisym, apart-sub, or_left, or_right, or-least, meets-some, some-meets, meets-apart, apart-meets, member-lt, full-member, member-full, digit_or}
use Rattle.attribute_set.proofs.Lectic.Laws.{single-at, single-only, single-sub}
use Rattle.attribute_set.proofs.Words.{words}
use Rattle.implication.specs.Closure.{closure}
use Rattle.implication.proofs.Closure.Laws.{closure-least, closure-inside, full-closed}
use Rattle.context.specs.Objects.{Object, word_attributes, has, lacks, contradicts}
use Rattle.context.proofs.Objects.Laws.{has-least, has-apart, lacks-below, lacks-marked, meets-lacks, apart-lacks, consistent-apart, contradicting-lacks}
use Rattle.context.specs.Tables.{Complete, completed}
use Rattle.context.proofs.Tables.Laws.{completed-complete, completes-set, complete-strip}
use Rattle.context.specs.Implied.{Completion, Consistent, Implied}

module _ (n : ℕ) (rs : List (Implication ℕ)) (o : Object) (k : Consistent n rs o) where
  -- a closed set above the yes marks and apart from the no marks is a completion's
  from-closed : (s : ℕ) → Sub o.yes_marks s → Sub s (full n) → Apart s o.no_marks → Closed words rs s → Completion n rs o (completed n s)
  from-closed s above inside apart closed = record {
    complete = completed-complete n inside;
    extends = completes-set n above k.no_marks apart;
    respects = closed;
  }

  had : (i : ℕ) → In i (has rs o) ↔ ((c : Object) → Completion n rs o c → In i c.yes_marks)
  had i = (
    λ h c m. ((has-least rs o).least c.yes_marks m.respects m.extends.yes_marks).at i h,
    λ f. f (completed n (has rs o)) (from-closed (has rs o) (has-least rs o).above
        ((has-least rs o).least (full n) (full-closed rs n k.over) k.yes_marks) (has-apart rs o k.agrees) (has-least rs o).member),
  )

  lacked : n ≤ word_attributes → (i : ℕ) → i < n → In i (lacks rs o) ↔ ((c : Object) → Completion n rs o c → In i c.yes_marks → ⊥)
  lacked most i below = (holds, λ f. go f (meets with' o.no_marks) refl)
    where
      with' : ℕ
      with' = closure rs (bit_or o.yes_marks (2 ^ i))

      holds : In i (lacks rs o) → (c : Object) → Completion n rs o c → In i c.yes_marks → ⊥
      holds h c m j =
          let inside = (closure-least rs _).least c.yes_marks m.respects (or-least m.extends.yes_marks (single-sub i _ j)) in
          apart-lacks rs o i (apart-sub inside m.extends.no_marks m.complete.apart) h

      go : ((c : Object) → Completion n rs o c → In i c.yes_marks → ⊥) → (b : Bool) → meets with' o.no_marks ≡ b → In i (lacks rs o)
      go f true e = meets-lacks rs o i (omega arith) e
      go f false e =
          let l = closure-least rs (bit_or o.yes_marks (2 ^ i)) in
          let inside = closure-inside rs n k.over (or-least k.yes_marks (single-sub i _ (member-full n i below))) in
          absurd (f _ (from-closed with' (sub_trans (or_left o.yes_marks (2 ^ i)) l.above) inside (meets-apart _ _ e) l.member)
          (l.above.at i ((or_right o.yes_marks (2 ^ i)).at i (single-at i))))

-- ---- complete rows

module _ (n : ℕ) (rs : List (Implication ℕ)) (o : Object) (over : All (Over words (full n)) rs) (whole : Complete n o) (ok : contradicts rs o ≡ false) where
  yes-in : Sub o.yes_marks (full n)
  yes-in = rw (← whole.whole) (or_left o.yes_marks o.no_marks)

  no-in : Sub o.no_marks (full n)
  no-in = rw (← whole.whole) (or_right o.yes_marks o.no_marks)

  -- nothing follows from the yes marks but themselves
  pub complete_has : has rs o ≡ o.yes_marks
  complete_has = sub-antisym (complete-strip whole ((has-least rs o).least (full n) (full-closed rs n over) yes-in) (has-apart rs o ok)) (has-least rs o).above

  -- an attribute that is not marked no adds itself alone: one of the first n is marked yes, and of any other no implication speaks
  added : (i : ℕ) → (In i o.no_marks → ⊥) → Sub (closure rs (bit_or o.yes_marks (2 ^ i))) (bit_or o.yes_marks (2 ^ i))
  added i m = (closure-least rs (bit_or o.yes_marks (2 ^ i))).least _ respects (sub_refl _)
    where
      respects : Closed words rs (bit_or o.yes_marks (2 ^ i))
      respects r k h = sub_trans (subst (λ s. Closed words rs s) complete_has (has-least rs o).member r k (premise (lt-or-le i n))) (or_left _ _)
        where
          premise : (i < n) ⊎ (n ≤ i) → Sub r.premise o.yes_marks
          premise (inl l) = sub_trans h (or-least (sub_refl _) (single-sub i _ (yes-marked l)))
            where
              yes-marked : i < n → In i o.yes_marks
              yes-marked l = (complete-strip whole (single-sub i _ (member-full n i l)) (record { at = λ j a b. m (subst (λ (x : ℕ). In x o.no_marks) (single-only i j a) b) })).at i (single-at i)
          premise (inr l) = record {
            at = λ j a. ⊎_elim (λ y. y) (λ z. absurd (omega (arith, l, full-member n j ((over r k).premise.at j a), single-only i j (other j a z)))) (member-cases o.yes_marks j);
          }
            where
              other : (j : ℕ) → In j r.premise → digit o.yes_marks j ≡ 0 → In j (2 ^ i)
              other j a z = omega (arith, h.at j a, digit_or o.yes_marks (2 ^ i) j, z)

  pub complete_lacks : n ≤ word_attributes → lacks rs o ≡ o.no_marks
  complete_lacks most = sub-antisym (record { at = λ i h. ⊎_elim (λ y. y) (λ z. absurd (spared i z h)) (member-cases o.no_marks i) })
      (record { at = λ i h. lacks-marked rs o i (omega (arith, most, full-member n i (no-in.at i h))) h })
    where
      spared : (i : ℕ) → digit o.no_marks i ≡ 0 → In i (lacks rs o) → ⊥
      spared i z h =
          let m : In i o.no_marks → ⊥ = λ y. omega (arith, y, z) in
          apart-lacks rs o i (apart-sub (added i m) (sub_refl o.no_marks) (record {
            at = λ j a b. ⊎_elim (λ y. whole.apart.at j y b)
                (λ x. m (subst (λ (w : ℕ). In w o.no_marks) (single-only i j (omega (arith, a, digit_or o.yes_marks (2 ^ i) j, x))) b))
                (member-cases o.yes_marks j);
          })) h

contradicting : (rs : List (Implication ℕ)) (o : Object) → o.no_marks < 2 ^ word_attributes → contradicts rs o ≡ meets (has rs o) (lacks rs o)
unfolding has contradicts
contradicting rs o w = go (contradicts rs o) refl
  where
    go : (b : Bool) → contradicts rs o ≡ b → b ≡ meets (has rs o) (lacks rs o)
    go true e =
        let m = meets-some _ _ e in
        sym (some-meets _ _ m.0 m.1 (lacks-marked rs o m.0 (member-lt o.no_marks m.0 word_attributes w m.2) m.2))
    go false e = sym (apart-meets (apart-sub (closure-least rs _).above (sub_refl _) (consistent-apart rs o e (sub_refl (has rs o)))))

all_lacked : (rs : List (Implication ℕ)) (o : Object) → contradicts rs o ≡ true → lacks rs o ≡ full word_attributes
all_lacked rs o e = sub-antisym (record { at = λ i h. member-full word_attributes i (lacks-below rs o i h) })
    (record { at = λ i h. contradicting-lacks rs o e i (full-member word_attributes i h) })

pub implied : Implied
implied = record {
  had = had;
  lacked = λ n rs o most k. lacked n rs o k most;
  complete_has = complete_has;
  complete_lacks = λ n rs o most over whole ok. complete_lacks n rs o over whole ok most;
  contradicting = contradicting;
  all_lacked = all_lacked;
}
