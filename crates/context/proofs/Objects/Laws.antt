-- What an object has and lacks, and what the tests of an object say of members. An object refutes an implication just if it has the
-- premise and lacks some attribute of the conclusion. All else reads `has`, `lacks`, `refutes` and `refutes_written` through these laws.
use Rattle.std.specs.Prelude.{◌≡◌, refl, Bool, true, false, List, ◌++◌, ℕ, ◌/◌, ◌^◌, ◌≤◌, ◌<◌, length}
use Rattle.std.proofs.Common.{sym, ap, ◌∙◌, true≢false, arith, ne_eqb}
use Rattle.std.proofs.lemmas.Bool.{false≢true}
use Rattle.std.specs.Int.Bits.{bit_and, bit_or}
use Rattle.theory.specs.Lists.{All}
use Rattle.theory.specs.Implications.{Implication, Closed, Least}
use Rattle.attribute_set.specs.Sets.{digit, In, Sub, Apart, meets}
use Rattle.attribute_set.proofs.Sets.Laws.{digit-none, sub-inside, not-inside, sub_dec, meets-some, some-meets, meets-apart, apart-meets, apart-sub, sub_refl, sub_trans, sub-antisym, none-sub, or_left, or_right, or-least}
use Rattle.attribute_set.proofs.Lectic.Laws.{single-at, single-sub}
use Rattle.attribute_set.proofs.Passing.Laws.{passing-in, passing-passes, passing-below}
use Rattle.attribute_set.proofs.Words.{words}
use Rattle.implication.specs.Closure.{closure, follows}
use Rattle.implication.proofs.Closure.Laws.{closure-least, closure-mono, closure-more, follows-sub}
use Rattle.implication.proofs.Pairs.Laws.{length_pairs, pairs-whole}
use Rattle.context.specs.Places.{lowest}
use Rattle.context.proofs.Places.Laws.{lowest-append-found, lowest-append-none}
use Rattle.context.specs.Objects.{Object, object, objects_of, whole, word_attributes, has, excludes, lacks, refutes, refutes_written, marked_twice, contradicts}

-- ---- what an object has and lacks

module _ (rs : List (Implication ℕ)) (o : Object) where
  -- it has its yes marks and what follows from them, and nothing else
  pub has-least : Least words (Closed words rs) o.yes_marks (has rs o)
  unfolding has
  has-least = closure-least rs o.yes_marks

  -- the closure with one attribute more
  abbrev pub with_attribute : ℕ → ℕ
  with_attribute i = closure rs (bit_or o.yes_marks (2 ^ i))

  -- an attribute of a word is lacked just if that meets the no marks
  pub lacks-meets : (i : ℕ) → In i (lacks rs o) → meets (with_attribute i) o.no_marks ≡ true
  unfolding lacks excludes
  lacks-meets i h = passing-passes (excludes rs o) word_attributes i h

  pub lacks-below : (i : ℕ) → In i (lacks rs o) → i < word_attributes
  unfolding lacks
  lacks-below i h = passing-below (excludes rs o) word_attributes i h

  pub meets-lacks : (i : ℕ) → i < word_attributes → meets (with_attribute i) o.no_marks ≡ true → In i (lacks rs o)
  unfolding lacks excludes
  meets-lacks i l e = passing-in (excludes rs o) word_attributes i l e

  pub apart-lacks : (i : ℕ) → Apart (with_attribute i) o.no_marks → In i (lacks rs o) → ⊥
  apart-lacks i a h = true≢false (sym (lacks-meets i h) ∙ apart-meets a)

  -- what is marked no is lacked
  pub lacks-marked : (i : ℕ) → i < word_attributes → In i o.no_marks → In i (lacks rs o)
  lacks-marked i l h = meets-lacks i l (some-meets _ _ i ((closure-least rs _).above.at i ((or_right o.yes_marks (2 ^ i)).at i (single-at i))) h)

  -- an attribute of a set with which the yes marks are spared is not lacked
  pub spared-set : (x : ℕ) → Apart (closure rs (bit_or o.yes_marks x)) o.no_marks → Apart (closure rs (bit_or o.yes_marks x)) (lacks rs o)
  spared-set x a = record { at = λ i h m. apart-lacks i (apart-sub (grown i h) (sub_refl o.no_marks) a) m }
    where
      grown : (i : ℕ) → In i (closure rs (bit_or o.yes_marks x)) → Sub (with_attribute i) (closure rs (bit_or o.yes_marks x))
      grown i h =
          let c = closure-least rs (bit_or o.yes_marks x) in
          (closure-least rs (bit_or o.yes_marks (2 ^ i))).least _ c.member (or-least (sub_trans (or_left o.yes_marks x) c.above) (single-sub i _ h))

  -- an object that lacks nothing lacks nothing of any set
  pub lacks-none : lacks rs o ≡ 0 → (x : ℕ) → Apart x (lacks rs o)
  lacks-none e x = record { at = λ i a b. omega (arith, digit-none i, ap (λ y. digit y i) e) }

  -- one without no marks lacks nothing
  pub unmarked-lacks : o.no_marks ≡ 0 → lacks rs o ≡ 0
  unmarked-lacks e =
      sub-antisym (record { at = λ i h. absurd (apart-lacks i (record { at = λ j a b. omega (arith, digit-none j, ap (λ y. digit y j) e) }) h) }) (none-sub _)

-- ---- refutation by written marks

module _ (o : Object) (r : Implication ℕ) where
  -- without the premise nothing is refuted
  pub written-left : (Sub r.premise o.yes_marks → ⊥) → refutes_written o r ≡ false
  unfolding refutes_written
  written-left n = rw (not-inside n)

  -- o refutes r: it has the premise, and lacks some attribute of the conclusion
  pub written_has : refutes_written o r ≡ true → Sub r.premise o.yes_marks
  written_has e = go (sub_dec r.premise o.yes_marks)
    where
      go : Dec (Sub r.premise o.yes_marks) → Sub r.premise o.yes_marks
      go (yes h) = h
      go (no n) = absurd (false≢true (sym (written-left n) ∙ e))

  pub written-lacks : refutes_written o r ≡ true → (i : ℕ) × In i r.conclusion × In i o.no_marks
  unfolding refutes_written
  written-lacks e = meets-some _ _ (rw (sub-inside (written_has e)) at e)

  -- o does not refute r: where it has the premise it lacks nothing of the conclusion
  pub not_written : refutes_written o r ≡ false → Sub r.premise o.yes_marks → Apart r.conclusion o.no_marks
  unfolding refutes_written
  not_written e h = meets-apart _ _ (rw (sub-inside h) at e)

  -- where o has the premise, the test is whether it lacks any of the conclusion
  pub written-taken : Sub r.premise o.yes_marks → refutes_written o r ≡ meets r.conclusion o.no_marks
  unfolding refutes_written
  written-taken h = rw (sub-inside h)

  pub written-spares : (Sub r.premise o.yes_marks → Apart r.conclusion o.no_marks) → refutes_written o r ≡ false
  written-spares k = go (sub_dec r.premise o.yes_marks)
    where
      go : Dec (Sub r.premise o.yes_marks) → refutes_written o r ≡ false
      go (yes h) = written-taken h ∙ apart-meets (k h)
      go (no n) = written-left n

-- ---- refutation

module _ (rs : List (Implication ℕ)) (o : Object) where
  -- the object with the marks that are implied: it refutes by its written marks what o refutes
  abbrev pub implied : Object
  implied = object (has rs o) (lacks rs o)

  module _ (r : Implication ℕ) where
    pub refutes-left : (Sub r.premise (has rs o) → ⊥) → refutes rs o r ≡ false
    unfolding refutes refutes_written
    refutes-left n = written-left implied r n

    pub refutes-has : refutes rs o r ≡ true → Sub r.premise (has rs o)
    unfolding refutes refutes_written
    refutes-has e = written_has implied r e

    pub refutes-lacks : refutes rs o r ≡ true → (i : ℕ) × In i r.conclusion × In i (lacks rs o)
    unfolding refutes refutes_written
    refutes-lacks e = written-lacks implied r e

    pub not-refutes : refutes rs o r ≡ false → Sub r.premise (has rs o) → Apart r.conclusion (lacks rs o)
    unfolding refutes refutes_written
    not-refutes e h = not_written implied r e h

    pub refutes-taken : Sub r.premise (has rs o) → refutes rs o r ≡ meets r.conclusion (lacks rs o)
    unfolding refutes refutes_written
    refutes-taken h = written-taken implied r h

    pub spares : (Sub r.premise (has rs o) → Apart r.conclusion (lacks rs o)) → refutes rs o r ≡ false
    unfolding refutes refutes_written
    spares k = written-spares implied r k

-- an object that has and lacks no less refutes no less
pub refutes-grown : (rs ts : List (Implication ℕ)) (o p : Object) (r : Implication ℕ) → Sub (has rs o) (has ts p) → Sub (lacks rs o) (lacks ts p)
    → refutes rs o r ≡ true → refutes ts p r ≡ true
refutes-grown rs ts o p r more-had more-lacked e =
    let t = refutes-lacks rs o r e in
    refutes-taken ts p r (sub_trans (refutes-has rs o r e) more-had) ∙ some-meets _ _ t.0 t.1 (more-lacked.at t.0 t.2)

-- ---- the first object that refutes

-- a test that no object without no marks passes: what is counted past the whole objects of a slice adds nothing
module _ (f : Object → Bool) (idle : (a : ℕ) → f (object a 0) ≡ false) (count : ℕ) (ws : List ℕ) where
  past : (t : List Object) × (objects_of count ws ≡ objects_of (whole count ws) ws ++ t) × All (λ o. f o ≡ false) t
  past = pairs-whole object (λ o. f o ≡ false) idle count ws

  pub lowest-whole : lowest f (objects_of (whole count ws) ws) < whole count ws → lowest f (objects_of count ws) ≡ lowest f (objects_of (whole count ws) ws)
  lowest-whole h = ap (lowest f) past.1 ∙ lowest-append-found f (objects_of (whole count ws) ws) past.0 (rw length_pairs h)

  pub lowest-none : whole count ws ≤ lowest f (objects_of (whole count ws) ws) → lowest f (objects_of count ws) ≡ count
  lowest-none h =
      ap (lowest f) past.1 ∙ lowest-append-none f (objects_of (whole count ws) ws) past.0 (rw length_pairs h) past.2
      ∙ ap length (sym past.1) ∙ length_pairs object count ws

-- what is counted past the whole objects of a slice refutes nothing
pub past-spares : (rs : List (Implication ℕ)) (r : Implication ℕ) (a : ℕ) → refutes rs (object a 0) r ≡ false
past-spares rs r a = spares rs (object a 0) r (λ h. lacks-none rs (object a 0) (unmarked-lacks rs (object a 0) refl) r.conclusion)

pub past-written : (r : Implication ℕ) (a : ℕ) → refutes_written (object a 0) r ≡ false
past-written r a = written-spares (object a 0) r (λ h. record { at = λ i x m. absurd (omega (arith, digit-none i, m)) })

-- ---- marks

-- the test of marks is false just if no attribute is marked both ways
pub marked-apart : (o : Object) → marked_twice o ≡ false → Apart o.yes_marks o.no_marks
unfolding marked_twice
marked-apart o e = meets-apart _ _ e

pub apart-marked : (o : Object) → Apart o.yes_marks o.no_marks → marked_twice o ≡ false
unfolding marked_twice
apart-marked o h = apart-meets h

-- the test of contradiction is false just if the closure of the yes marks has no attribute marked no
pub contradicts-apart : (rs : List (Implication ℕ)) (o : Object) → contradicts rs o ≡ false → Apart (closure rs o.yes_marks) o.no_marks
unfolding contradicts
contradicts-apart rs o e = meets-apart _ _ e

pub apart-contradicts : (rs : List (Implication ℕ)) (o : Object) → Apart (closure rs o.yes_marks) o.no_marks → contradicts rs o ≡ false
unfolding contradicts
apart-contradicts rs o h = apart-meets h

pub has-apart : (rs : List (Implication ℕ)) (o : Object) → contradicts rs o ≡ false → Apart (has rs o) o.no_marks
unfolding has
has-apart rs o e = contradicts-apart rs o e

pub met-contradicts : (rs : List (Implication ℕ)) (o : Object) → (bit_and (closure rs o.yes_marks) o.no_marks ≡ 0 → ⊥) → contradicts rs o ≡ true
unfolding contradicts meets
met-contradicts rs o n = rw (ne_eqb _ _ n) refl

-- with more implications in force an object counts as having and lacking no less
pub has_more : (rs ts : List (Implication ℕ)) (o : Object) → Sub (has rs o) (has (rs ++ ts) o)
unfolding has
has_more rs ts o = closure-more rs ts o.yes_marks

pub lacks-more : (rs ts : List (Implication ℕ)) (o : Object) → Sub (lacks rs o) (lacks (rs ++ ts) o)
lacks-more rs ts o = record {
  at = λ i h.
      let m = meets-some _ _ (lacks-meets rs o i h) in
      meets-lacks (rs ++ ts) o i (lacks-below rs o i h) (some-meets _ _ m.0 ((closure-more rs ts _).at m.0 m.1) m.2);
}

-- an object that does not contradict lacks nothing of the closure of what it has
pub consistent-apart : (rs : List (Implication ℕ)) (o : Object) {q : ℕ} → contradicts rs o ≡ false → Sub q (has rs o) → Apart (closure rs q) (lacks rs o)
unfolding has
consistent-apart rs o {q} e h = record { at = λ i a b. apart-lacks rs o i (apart-sub (grown i a) (sub_refl o.no_marks) (contradicts-apart rs o e)) b }
  where
    c : ℕ
    c = closure rs o.yes_marks

    grown : (i : ℕ) → In i (closure rs q) → Sub (closure rs (bit_or o.yes_marks (2 ^ i))) c
    grown i a =
        let l = closure-least rs o.yes_marks in
        (closure-least rs _).least c l.member (or-least l.above (single-sub i c (((closure-least rs q).least c l.member h).at i a)))

-- so it refutes nothing that follows
pub consistent-spares : (rs : List (Implication ℕ)) (o : Object) (r : Implication ℕ) → contradicts rs o ≡ false → follows rs r ≡ true → refutes rs o r ≡ false
consistent-spares rs o r e f = spares rs o r (λ h. apart-sub (follows-sub rs r f) (sub_refl _) (consistent-apart rs o e h))

-- one that contradicts lacks every attribute of a word
pub contradicting-lacks : (rs : List (Implication ℕ)) (o : Object) → contradicts rs o ≡ true → (i : ℕ) → i < word_attributes → In i (lacks rs o)
unfolding contradicts
contradicting-lacks rs o e i l =
    let m = meets-some _ _ e in
    meets-lacks rs o i l (some-meets _ _ m.0 ((closure-mono rs (or_left o.yes_marks (2 ^ i))).at m.0 m.1) m.2)
