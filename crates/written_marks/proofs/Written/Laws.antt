-- Implied marks take no less away than written ones (`reach-implied`): by them nothing more is asked at a set.
-- For complete objects that do not contradict the implications in force, refutation and reach are those by written marks
-- (`refutes-written`, `reach-written`). What is counted past the whole objects of a slice changes no reach.
use Rattle.std.specs.Prelude.{◌≡◌, Bool, ◌&&◌, ℕ, ◌^◌, ◌≤◌, ◌<◌}
use Rattle.std.proofs.Math.Path.{refl, ap, ap₂}
use Rattle.std.proofs.Common.{◌∙◌, arith}
use Rattle.std.proofs.Math.Bool.{true, false}
use mathlib.Core.List.{List, [], ◌∷◌, ◌++◌, Memᴰ}
use Rattle.theory.specs.Lists.{All}
use Rattle.theory.specs.Implications.{Implication, Over}
use Rattle.attribute_set.specs.Sets.{digit, Sub, Apart, inside, meets, full, without}
use Rattle.attribute_set.proofs.Sets.Laws.{sub-inside, not-inside, sub_dec, sub_refl, sub_trans, sub-antisym, apart-sub, without_sub, without-great, digit-none, member-lt}
use Rattle.attribute_set.proofs.Words.{words}
use Rattle.implication.proofs.Pairs.Laws.{pairs-whole}
use Rattle.context.specs.Objects.{Object, object, objects_of, word_attributes, has, lacks, refutes, refutes_written, contradicts, whole}
use Rattle.context.proofs.Objects.Laws.{has-least, lacks-marked}
use Rattle.context.specs.Tables.{Complete}
use Rattle.context.proofs.Implied.Theorem.{implied}
use Rattle.reach.specs.Reach.{cut, narrow, reach}
use Rattle.reach.proofs.Reach.Laws.{reach-inside, reach-apart}
use Rattle.written_marks.specs.Written.{cut_written, narrow_written, reach_written}

-- ---- by written marks

module _ (p : ℕ) (o : Object) (x : ℕ) where
  -- where o marks p yes, what it marks no is taken away; where it does not, nothing is
  pub written-taken : Sub p o.yes_marks → cut_written p o x ≡ without x o.no_marks
  unfolding cut_written
  written-taken h = rw (cut_written, sub-inside h)

  pub written-left : (Sub p o.yes_marks → ⊥) → cut_written p o x ≡ x
  unfolding cut_written
  written-left n = rw (cut_written, not-inside n)

pub narrow-append : (p : ℕ) (os ts : List Object) (x : ℕ) → narrow_written p (os ++ ts) x ≡ narrow_written p ts (narrow_written p os x)
unfolding narrow_written
narrow-append p [] ts x = refl
narrow-append p (o ∷ os) ts x = narrow-append p os ts (cut_written p o x)

-- objects without no marks change nothing
cut-idle : (p : ℕ) (o : Object) (x : ℕ) → o.no_marks ≡ 0 → cut_written p o x ≡ x
unfolding cut_written
cut-idle p o x e = go (inside p o.yes_marks)
  where
    same : without x o.no_marks ≡ x
    same = sub-antisym (without_sub x _) (without-great (sub_refl x) (record { at = λ i a b. omega (arith, digit-none i, ap (λ y. digit y i) e, b) }))

    go : (b : Bool) → elim b [ true ↦ without x o.no_marks | false ↦ x ] ≡ x
    go true = same
    go false = refl

narrow-idle : (p : ℕ) (ts : List Object) → All (λ o. o.no_marks ≡ 0) ts → (x : ℕ) → narrow_written p ts x ≡ x
unfolding narrow_written
narrow-idle p [] h x = refl
narrow-idle p (o ∷ ts) h x =
    ap (narrow_written p ts) (cut-idle p o x (h o (Memᴰ.head refl))) ∙ narrow-idle p ts (λ y m. h y (Memᴰ.tail m)) x

-- what is counted past the whole objects of a slice changes no reach
pub reach-whole : (n count : ℕ) (ws : List ℕ) (p : ℕ) → reach_written n (objects_of count ws) p ≡ reach_written n (objects_of (whole count ws) ws) p
unfolding reach_written
reach-whole n count ws p =
    let t = pairs-whole object (λ o. o.no_marks ≡ 0) (λ a. refl) count ws in
    ap (λ os. narrow_written p os (full n)) t.1 ∙ narrow-append p (objects_of (whole count ws) ws) t.0 (full n)
    ∙ narrow-idle p t.0 t.2 _

-- ---- beside implied marks

-- what each object spares that has p is spared by all
narrow-great : (p : ℕ) (os : List Object) (x : ℕ) {z : ℕ} → Sub z x → ((o : Object) → Memᴰ o os → Sub p o.yes_marks → Apart z o.no_marks)
    → Sub z (narrow_written p os x)
unfolding narrow_written
narrow-great p [] x s d = s
narrow-great p (o ∷ os) x {z} s d = narrow-great p os (cut_written p o x) (go (sub_dec p o.yes_marks)) (λ y m. d y (Memᴰ.tail m))
  where
    go : Dec (Sub p o.yes_marks) → Sub z (cut_written p o x)
    go (yes h) = rw (written-taken p o x h) (without-great s (d o (Memᴰ.head refl) h))
    go (no n) = rw (written-left p o x n) s

-- what an object marks it has and lacks, so the reach lies in the one by written marks
pub reach-implied : (rs : List (Implication ℕ)) (n : ℕ) (os : List Object) → All (λ o. o.no_marks < 2 ^ word_attributes) os → (p : ℕ)
    → Sub (reach rs n os p) (reach_written n os p)
unfolding reach_written
reach-implied rs n os w p = narrow-great p os (full n) (reach-inside rs n os p) (λ o m h.
    apart-sub (sub_refl _) (record { at = λ i k. lacks-marked rs o i (member-lt o.no_marks i word_attributes (w o m) k) k })
    (reach-apart rs n os p o m (sub_trans h (has-least rs o).above)))

-- ---- of complete objects

-- o is complete over n attributes and does not contradict the implications
pub record Settled (n : ℕ) (rs : List (Implication ℕ)) (o : Object) : Type 0 where
  pub complete : Complete n o
  pub agrees : contradicts rs o ≡ false

module _ (n : ℕ) (most : n ≤ word_attributes) (rs : List (Implication ℕ)) (over : All (Over words (full n)) rs) where
  module _ (o : Object) (k : Settled n rs o) where
    has-written : has rs o ≡ o.yes_marks
    has-written = implied.complete_has n rs o over k.complete k.agrees

    lacks-written : lacks rs o ≡ o.no_marks
    lacks-written = implied.complete_lacks n rs o most over k.complete k.agrees

    pub refutes-written : (r : Implication ℕ) → refutes rs o r ≡ refutes_written o r
    unfolding refutes refutes_written
    refutes-written r = ap₂ (λ h l. inside r.premise h && meets r.conclusion l) has-written lacks-written

    cut-written : (p x : ℕ) → cut rs p o x ≡ cut_written p o x
    unfolding cut cut_written
    cut-written p x = ap₂ {C = ℕ} (λ (h l : ℕ). elim (inside p h) [ true ↦ without x l | false ↦ x ]) has-written lacks-written

  narrow-written : (os : List Object) → All (Settled n rs) os → (p x : ℕ) → narrow rs p os x ≡ narrow_written p os x
  unfolding narrow narrow_written
  narrow-written [] h p x = refl
  narrow-written (o ∷ os) h p x =
      ap (narrow rs p os) (cut-written o (h o (Memᴰ.head refl)) p x) ∙ narrow-written os (λ y m. h y (Memᴰ.tail m)) p (cut_written p o x)

  pub reach-written : (os : List Object) → All (Settled n rs) os → (m p : ℕ) → reach rs m os p ≡ reach_written m os p
  unfolding reach reach_written
  reach-written os h m p = narrow-written os h p (full m)
