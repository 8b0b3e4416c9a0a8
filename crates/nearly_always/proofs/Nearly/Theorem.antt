-- What is listed is what `Listed` says: an attribute (01: property) is in the set just if it is one of the first n, is not in the premise,
-- and 100 times the number of rows whose yes marks contain premise and attribute exceeds the percentage times the number of those whose
-- yes marks contain the premise (`listed`). The rows are counted as the lengths of two lists, each of which has just those rows of the
-- table, in their order; there is one such list (`picks`, `picks-same`). Nothing is listed for a premise that no row has (`none-listed`).
use Rattle.std.specs.Prelude.{◌≡◌, refl, Bool, true, false, List, [], ◌∷◌, ℕ, ◌*◌, ◌^◌, ◌<◌, length, eqb}
use Rattle.std.proofs.Common.{sym, ap, ◌∙◌, arith}
use Rattle.std.proofs.Math.Logic.{⊎_elim}
use Rattle.std.specs.Int.Bits.{bit_or}
use borrow.Author.Tests.{lt-ltb, ltb-true, eqb-true, eqb-false}
use Rattle.attribute_set.specs.Sets.{In, inside}
use Rattle.attribute_set.proofs.Sets.Laws.{digit-without, digit_lt, member-cases, some-member, inside-sub, outside-sub, sub-inside, not-inside}
use Rattle.attribute_set.specs.Passing.{passing}
use Rattle.attribute_set.proofs.Passing.Laws.{passing-in, passing-passes, passing-below}
use Rattle.context.specs.Objects.{Object}
use Rattle.nearly_always.specs.Nearly.{having, support, exceeds, nearly_always}
use Rattle.nearly_always.specs.Nearly.Listed.{Picks, no_rows, picked, left_out, Lists}
use Rattle.nearly_always.proofs.Nearly.Laws.{support-fewer}

-- ---- the list of rows

pub picks : (s : ℕ) (os : List Object) → Picks s os (having s os)
unfolding having
picks s [] = no_rows
picks s (o ∷ os) = go (inside s o.yes_marks) refl (picks s os)
  where
    go : (b : Bool) → inside s o.yes_marks ≡ b → Picks s os (having s os)
        → Picks s (o ∷ os) (elim b [ true ↦ o ∷ having s os | false ↦ having s os ])
    go true e p = picked o (inside-sub s o.yes_marks e) p
    go false e p = left_out o (outside-sub s o.yes_marks e) p

-- no other list is one of these rows
picks-having : (s : ℕ) {os l : List Object} → Picks s os l → l ≡ having s os
unfolding having
picks-having s no_rows = refl
picks-having s (picked o h p) = rw (sub-inside h, having) (ap (λ l. o ∷ l) (picks-having s p))
picks-having s (left_out o h p) = rw (not-inside h, having) (picks-having s p)

pub picks-same : (s : ℕ) (os l m : List Object) → Picks s os l → Picks s os m → l ≡ m
picks-same s os l m p q = picks-having s p ∙ sym (picks-having s q)

-- ---- the set

-- a set without members
empty : (s : ℕ) → ((p : ℕ) → In p s → ⊥) → s ≡ 0
empty s h = go (eqb s 0) refl
  where
    go : (b : Bool) → eqb s 0 ≡ b → s ≡ 0
    go true e = eqb-true s 0 e
    go false e = let m = some-member s (eqb-false s 0 e) in absurd (h m.0 m.1)

module _ (n percent : ℕ) (os : List Object) (premise : ℕ) where
  test : (p : ℕ) → exceeds percent os premise p ≡ true → percent * support premise os < 100 * support (bit_or premise (2 ^ p)) os
  unfolding exceeds
  test p e = ltb-true _ _ e

  passes : (p : ℕ) → percent * support premise os < 100 * support (bit_or premise (2 ^ p)) os → exceeds percent os premise p ≡ true
  unfolding exceeds
  passes p h = lt-ltb _ _ h

  outside-premise : (p : ℕ) → In p (nearly_always n percent os premise) → In p (passing (exceeds percent os premise) n) × (In p premise → ⊥)
  unfolding nearly_always
  outside-premise p h =
      let w = digit-without (passing (exceeds percent os premise) n) premise p in
      (omega (arith, w, h, digit_lt (passing (exceeds percent os premise) n) p), λ m. omega (arith, w, h, m, digit_lt (passing (exceeds percent os premise) n) p))

  inside-set : (p : ℕ) → In p (passing (exceeds percent os premise) n) → (In p premise → ⊥) → In p (nearly_always n percent os premise)
  unfolding nearly_always
  inside-set p h out =
      let w = digit-without (passing (exceeds percent os premise) n) premise p in
      ⊎_elim (λ m. absurd (out m)) (λ z. omega (arith, w, h, z)) (member-cases premise p)

  pub listed : Lists n percent os premise (nearly_always n percent os premise)
  listed = record {
    only = λ p h.
        let m = outside-premise p h in
        let f = exceeds percent os premise in
        record {
          of_M = passing-below f n p m.0;
          outside = m.1;
          exceeding = λ all both a b. rw (picks-having premise a, picks-having (bit_or premise (2 ^ p)) b) (test p (passing-passes f n p m.0));
        };
    every = λ p h.
        inside-set p (passing-in (exceeds percent os premise) n p h.of_M
        (passes p (h.exceeding (having premise os) (having (bit_or premise (2 ^ p)) os) (picks premise os) (picks (bit_or premise (2 ^ p)) os)))) h.outside;
  }

  -- the set is empty where no row has the premise
  pub none-listed : Picks premise os [] → nearly_always n percent os premise ≡ 0
  none-listed h = empty (nearly_always n percent os premise) λ p m.
      let none : support premise os ≡ 0 = ap length (sym (picks-having premise h)) in
      let more = test p (passing-passes (exceeds percent os premise) n p (outside-premise p m).0) in
      absurd (omega (arith, more, support-fewer premise p os, none))
