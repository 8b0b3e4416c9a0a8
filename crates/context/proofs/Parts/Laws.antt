-- With what is spared, the attributes of a set are told into those that an object lacks and those it does not, one after the other
-- (`lacked-start`, `lacked-turn`). The part that an object refutes is empty just if it does not refute (`part-refutes`).
use Rattle.std.specs.Prelude.{◌≡◌, refl, ◌⊎◌, Bool, true, false, List, ℕ, ◌+◌, ◌^◌, ◌≤◌, ◌<◌, eqb}
use Rattle.std.proofs.Common.{sym, ◌∙◌, inl, inr, ⊎_elim, arith, pow_pos}
use Rattle.std.proofs.Math.Path.{ap}
use Rattle.std.proofs.Math.Bool.{not}
use Rattle.std.specs.Int.Bits.{bit_and, bit_or, and_zero_r}
use Rattle.std.proofs.lemmas.Nat.{and_le_l}
use Rattle.theory.specs.Implications.{Implication}
use Rattle.attribute_set.specs.Sets.{digit, In, Sub, Apart, without, meets}
use Rattle.attribute_set.proofs.Sets.Laws.{digit_lt, digit_or, digit_and, digit-without, digit-none, digit-sub, ext, member-cases, member-lt, sub-le, sub→and, sub_refl, sub_trans, sub-antisym, or_left, or_right, or-least, and_left, and_right, and-great, without_sub, apart-sub, and-apart, meets-apart, apart-meets, some-meets, some-member, sub-inside, not-inside, sub_dec, lt-sub-full}
use Rattle.attribute_set.proofs.Lectic.Laws.{single-sub}
use Rattle.implication.specs.Closure.{closure}
use Rattle.implication.proofs.Closure.Laws.{closure-least}
use Rattle.implication.specs.Until.{CloseUntil}
use Rattle.context.specs.Objects.{Object, word_attributes, has, lacks, refutes, contradicts}
use Rattle.context.proofs.Objects.Laws.{lacks-marked, meets-lacks, unmarked-lacks, spared-set, consistent-apart, refutes-taken, refutes-left}
use Rattle.context.proofs.Implied.Theorem.{implied}
use Rattle.context.specs.Parts.{spared, refuted_part}

-- ---- members, digit by digit

apart-digits : {x y : ℕ} → Apart x y → (j : ℕ) → digit x j + digit y j ≤ 1
apart-digits {x} {y} a j =
    ⊎_elim (λ h. ⊎_elim (λ k. absurd (a.at j h k)) (λ k. omega (arith, h, k)) (member-cases y j)) (λ h. omega (arith, h, digit_lt y j)) (member-cases x j)

-- what of x lies in n is in l, what lies in h is not: so n and the rest tell x by l
told-start : (x n h l : ℕ) → Sub n l → Apart h l → bit_or (bit_and x n) (bit_and (without (without x n) h) l) ≡ bit_and x l
told-start x n h l s a = ext _ _ (λ j. omega (
  arith,
  digit_or (bit_and x n) (bit_and (without (without x n) h) l) j,
  digit_and x n j,
  digit_and (without (without x n) h) l j,
  digit-without (without x n) h j,
  digit-without x n j,
  digit_and x l j,
  digit_lt x j,
  digit_lt n j,
  digit_lt l j,
  digit-sub s j,
  apart-digits a j,
))

-- a part a of the open set x is told by what is spared: what is not lies in l, and the spared set is apart from l
told-turn : (k x a s l : ℕ) → Sub a x → Sub (without a s) l → Apart s l
    → bit_or (bit_or k (without a s)) (bit_and (without x (bit_or a s)) l) ≡ bit_or k (bit_and x l)
told-turn k x a s l inside' lacked apart = sub-antisym
    (or-least (or-least (or_left k (bit_and x l)) (sub_trans (and-great (sub_trans (without_sub a s) inside') lacked) (or_right k (bit_and x l))))
    (sub_trans (and-great (sub_trans (and_left rest l) (without_sub x (bit_or a s))) (and_right rest l)) (or_right k (bit_and x l))))
    (or-least (sub_trans (or_left k (without a s)) (or_left told left)) (record { at = λ j h. go j h (member-cases a j) }))
  where
    told : ℕ
    told = bit_or k (without a s)

    rest : ℕ
    rest = without x (bit_or a s)

    left : ℕ
    left = bit_and rest l

    go : (j : ℕ) → In j (bit_and x l) → (In j a) ⊎ (digit a j ≡ 0) → In j (bit_or told left)
    go j h (inl m) =
        let z = apart-digits apart j in
        (or_left told left).at j ((or_right k (without a s)).at j (omega (arith, m, z, (and_right x l).at j h, digit-without a s j)))
    go j h (inr m) =
        let z = apart-digits apart j in
        let y : In j rest = omega (arith, m, z, (and_left x l).at j h, (and_right x l).at j h, digit-without x (bit_or a s) j, digit_or a s j) in
        (or_right told left).at j (omega (arith, y, (and_right x l).at j h, digit_and rest l j))

-- ---- what is lacked

module _ (rs : List (Implication ℕ)) (o : Object) where
  -- the closure with x meets the no marks, and nothing is spared; or it does not, and it is
  pub spared-met : (x : ℕ) → meets (closure rs (bit_or o.yes_marks x)) o.no_marks ≡ true → spared rs o x ≡ 0
  unfolding spared
  spared-met x e = rw (spared, e)

  pub spared-whole : (x : ℕ) → meets (closure rs (bit_or o.yes_marks x)) o.no_marks ≡ false → spared rs o x ≡ closure rs (bit_or o.yes_marks x)
  unfolding spared
  spared-whole x e = rw (spared, e)

  -- a closure that was given up where it met the no marks tells which
  pub until-met : (x : ℕ) {f : ℕ} → CloseUntil (closure rs (bit_or o.yes_marks x)) o.no_marks f → (bit_and f o.no_marks ≡ 0 → ⊥) → 0 ≡ spared rs o x
  until-met x {f} c n =
      let m = some-member (bit_and f o.no_marks) n in
      sym (spared-met x (some-meets _ _ m.0 (c.least.at m.0 ((and_left f o.no_marks).at m.0 m.1)) ((and_right f o.no_marks).at m.0 m.1)))

  pub until-whole : (x : ℕ) {f : ℕ} → CloseUntil (closure rs (bit_or o.yes_marks x)) o.no_marks f → bit_and f o.no_marks ≡ 0 → f ≡ spared rs o x
  until-whole x {f} c e =
      let w = c.whole e in
      w ∙ sym (spared-whole x (apart-meets (and-apart _ _ (ap (λ (s : ℕ). bit_and s o.no_marks) (sym w) ∙ e))))

  -- what is spared is not lacked; an attribute that is not spared with itself is
  spared-apart : (x : ℕ) → Apart (spared rs o x) (lacks rs o)
  spared-apart x = go (meets (closure rs (bit_or o.yes_marks x)) o.no_marks) refl
    where
      go : (b : Bool) → meets (closure rs (bit_or o.yes_marks x)) o.no_marks ≡ b → Apart (spared rs o x) (lacks rs o)
      go true e = rw (spared-met x e) (record { at = λ i a m. omega (arith, digit-none i, a) })
      go false e = rw (spared-whole x e) (spared-set rs o x (meets-apart _ _ e))

  not_spared : (i : ℕ) → i < word_attributes → Sub (without (2 ^ i) (spared rs o (2 ^ i))) (lacks rs o)
  not_spared i l = go (meets (closure rs (bit_or o.yes_marks (2 ^ i))) o.no_marks) refl
    where
      go : (b : Bool) → meets (closure rs (bit_or o.yes_marks (2 ^ i))) o.no_marks ≡ b → Sub (without (2 ^ i) (spared rs o (2 ^ i))) (lacks rs o)
      go true e = record { at = λ j h. (single-sub i (lacks rs o) (meets-lacks rs o i l e)).at j (omega (arith, h, digit-without (2 ^ i) (spared rs o (2 ^ i)) j, digit_lt (2 ^ i) j)) }
      go false e = record {
        at = λ j h.
            let s = (closure-least rs (bit_or o.yes_marks (2 ^ i))).above.at j ((or_right o.yes_marks (2 ^ i)).at j
            (omega (arith, h, digit-without (2 ^ i) (spared rs o (2 ^ i)) j, digit_lt (2 ^ i) j))) in
            absurd (omega (arith, h, digit-without (2 ^ i) (spared rs o (2 ^ i)) j, digit_lt (2 ^ i) j, s, ap (λ (w : ℕ). digit w j) (spared-whole (2 ^ i) e)));
      }

  -- an object that does not contradict lacks of x what it marks no, and of what it neither marks no nor has what is still to be told
  pub lacked-start : (x : ℕ) → contradicts rs o ≡ false → o.no_marks < 2 ^ word_attributes
      → bit_or (bit_and x o.no_marks) (bit_and (without (without x o.no_marks) (has rs o)) (lacks rs o)) ≡ bit_and x (lacks rs o)
  lacked-start x e w =
      told-start x o.no_marks (has rs o) (lacks rs o) (record { at = λ i h. lacks-marked rs o i (member-lt o.no_marks i word_attributes w h) h })
      (apart-sub (closure-least rs (has rs o)).above (sub_refl _) (consistent-apart rs o e (sub_refl (has rs o))))

  -- attribute i of the open set x is told, and what is spared with it
  pub lacked-turn : (k x i : ℕ) → i < word_attributes → In i x
      → let s = spared rs o (2 ^ i) in bit_or (bit_or k (without (2 ^ i) s)) (bit_and (without x (bit_or (2 ^ i) s)) (lacks rs o)) ≡ bit_or k (bit_and x (lacks rs o))
  lacked-turn k x i l h = told-turn k x (2 ^ i) (spared rs o (2 ^ i)) (lacks rs o) (single-sub i x h) (not_spared i l) (spared-apart (2 ^ i))

-- a set is smaller without one of its attributes and whatever else
pub without-less : (x i s : ℕ) → In i x → without x (bit_or (2 ^ i) s) < x
unfolding without
without-less x i s h =
    let a = sub-le (and-great (single-sub i x h) (or_left (2 ^ i) s)) in
    omega (arith, a, pow_pos i, and_le_l x (bit_or (2 ^ i) s))

-- ---- what is refuted

module _ (rs : List (Implication ℕ)) (o : Object) (r : Implication ℕ) where
  pub part_left : (Sub r.premise (has rs o) → ⊥) → refuted_part rs o r ≡ 0
  unfolding refuted_part
  part_left n = rw (refuted_part, not-inside n)

  pub part-taken : Sub r.premise (has rs o) → refuted_part rs o r ≡ bit_and r.conclusion (lacks rs o)
  unfolding refuted_part
  part-taken h = rw (refuted_part, sub-inside h)

  -- one without no marks refutes nothing
  pub part-unmarked : o.no_marks ≡ 0 → refuted_part rs o r ≡ 0
  part-unmarked e = go (sub_dec r.premise (has rs o))
    where
      go : Dec (Sub r.premise (has rs o)) → refuted_part rs o r ≡ 0
      go (yes h) = part-taken h ∙ ap (bit_and r.conclusion) (unmarked-lacks rs o e) ∙ and_zero_r r.conclusion
      go (no n) = part_left n

  -- one that contradicts refutes all of a conclusion in a word
  pub part-contradicting : contradicts rs o ≡ true → r.conclusion < 2 ^ word_attributes → bit_and r.conclusion (lacks rs o) ≡ r.conclusion
  part-contradicting e w = ap (bit_and r.conclusion) (implied.all_lacked rs o e) ∙ sub→and (lt-sub-full r.conclusion word_attributes w)

  pub part-refutes : refutes rs o r ≡ not (eqb (refuted_part rs o r) 0)
  unfolding meets
  part-refutes = go (sub_dec r.premise (has rs o))
    where
      go : Dec (Sub r.premise (has rs o)) → refutes rs o r ≡ not (eqb (refuted_part rs o r) 0)
      go (yes h) = refutes-taken rs o r h ∙ ap (λ x. not (eqb x 0)) (sym (part-taken h))
      go (no n) = refutes-left rs o r n ∙ ap (λ x. not (eqb x 0)) (sym (part_left n))
