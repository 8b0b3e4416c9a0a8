-- A filled object has and lacks no less than before (`has-joined`, `lacks-joined`), whatever implications are in force. In a list the filled
-- object alone is another (`filled-here`, `filled-other`), and none is where its marks are known (`filled-known`). Every member is there as it
-- was or filled (`filled-member`), and what holds of all members and of the filled object holds of all members then (`all-filled`).
use Rattle.std.specs.Prelude.{◌≡◌, ◌⊎◌, Bool, ◌||◌, length}
use Rattle.std.proofs.Math.Path.{refl, sym, ap}
use Rattle.std.proofs.Common.{◌∙◌, true≢false, arith}
use Rattle.std.proofs.Math.Logic.{inl, inr}
use Rattle.std.proofs.Math.Bool.{true, false}
use mathlib.Core.List.{List, [], ◌∷◌, ◌++◌, Memᴰ}
use Prim.Native.Nat.{ℕ, zero, suc, ◌^◌, ◌<◌}
use Rattle.std.proofs.Math.ListN.{set, length-set, get_or-append}
use Rattle.std.specs.Int.Bits.{bit_or}
use Rattle.std.proofs.lemmas.List.{set-append_left}
use Rattle.std.proofs.Math.Seq.{get_or-set_same, get_or-set_other, set-get_or}
use Rattle.theory.specs.Lists.{All}
use Rattle.theory.proofs.Lists.Laws.{all_cons}
use Rattle.theory.specs.Implications.{Implication}
use Rattle.attribute_set.specs.Sets.{Sub, Apart, meets}
use Rattle.attribute_set.proofs.Sets.Laws.{sub_refl, sub_trans, sub-antisym, or_left, or_right, or-least, or-inside, apart-sub, meets-some, some-meets, meets-apart, apart-meets, without-apart, without-great}
use Rattle.implication.proofs.Closure.Laws.{closure-mono}
use Rattle.context.specs.Objects.{Object, object, has, lacks}
use Rattle.context.proofs.Objects.Laws.{lacks-meets, lacks-below, meets-lacks}
use Rattle.context.specs.Filling.{joined, reverses, object_at, filled_at}

-- ---- one object

module _ (rs : List (Implication ℕ)) (o m : Object) where
  pub has-joined : Sub (has rs o) (has rs (joined o m))
  unfolding has
  has-joined = closure-mono rs (or_left o.yes_marks m.yes_marks)

  pub lacks-joined : Sub (lacks rs o) (lacks rs (joined o m))
  lacks-joined = record {
    at = λ i h.
        let t = meets-some _ _ (lacks-meets rs o i h) in
        meets-lacks rs (joined o m) i (lacks-below rs o i h)
        (some-meets _ _ t.0 ((closure-mono rs (grown i)).at t.0 t.1) ((or_left o.no_marks m.no_marks).at t.0 t.2));
  }
    where
      grown : (i : ℕ) → Sub (bit_or o.yes_marks (2 ^ i)) (bit_or (bit_or o.yes_marks m.yes_marks) (2 ^ i))
      grown i =
          let both = bit_or o.yes_marks m.yes_marks in
          or-least (sub_trans (or_left o.yes_marks m.yes_marks) (or_left both (2 ^ i))) (or_right both (2 ^ i))

-- three sets together
or-in-turn : (x y z : ℕ) → bit_or (bit_or x y) z ≡ bit_or x (bit_or y z)
or-in-turn x y z =
    let right = or_right x (bit_or y z) in
    let left = or_left (bit_or x y) z in
    sub-antisym (or-least (or-least (or_left x (bit_or y z)) (sub_trans (or_left y z) right)) (sub_trans (or_right y z) right))
    (or-least (sub_trans (or_left x y) left) (or-least (sub_trans (or_right x y) left) (or_right (bit_or x y) z)))

-- to fill twice is to fill with both
pub joined-in-turn : (o m p : Object) → joined (joined o m) p ≡ joined o (joined m p)
joined-in-turn o m p =
    λ i. object (or-in-turn o.yes_marks m.yes_marks p.yes_marks i) (or-in-turn o.no_marks m.no_marks p.no_marks i)

-- marks that are known change nothing
pub joined-known : (o m : Object) → Sub m.yes_marks o.yes_marks → Sub m.no_marks o.no_marks → joined o m ≡ o
joined-known o m a b = λ i. object (or-inside a i) (or-inside b i)

-- a set of two parts is apart from what both are apart from
apart-or : {x y z : ℕ} → Apart x z → Apart y z → Apart (bit_or x y) z
apart-or {x} {y} {z} h k =
    apart-sub (or-least (without-great (or_left x y) h) (without-great (or_right x y) k)) (sub_refl z) (without-apart (bit_or x y) z)

apart-turned : {x y : ℕ} → Apart x y → Apart y x
apart-turned h = record { at = λ i a b. h.at i b a }

module _ (o m : Object) where
  -- the test of reversed marks is false just if neither object's yes marks have a no mark of the other
  pub unreversed : reverses o m ≡ false → Apart o.yes_marks m.no_marks × Apart o.no_marks m.yes_marks
  unfolding reverses
  unreversed = go (meets o.yes_marks m.no_marks) refl
    where
      go : (b : Bool) → meets o.yes_marks m.no_marks ≡ b → (b || meets o.no_marks m.yes_marks) ≡ false
          → Apart o.yes_marks m.no_marks × Apart o.no_marks m.yes_marks
      go true e h = absurd (true≢false h)
      go false e h = (meets-apart _ _ e, meets-apart _ _ h)

  pub not-reversing : Apart o.yes_marks m.no_marks → Apart o.no_marks m.yes_marks → reverses o m ≡ false
  unfolding reverses
  not-reversing h k = rw (apart-meets h) (apart-meets k)

  -- a filled object marks no attribute both ways where neither did and none is reversed
  pub joined_once : Apart o.yes_marks o.no_marks → Apart m.yes_marks m.no_marks → Apart o.yes_marks m.no_marks
      → Apart o.no_marks m.yes_marks → Apart (joined o m).yes_marks (joined o m).no_marks
  joined_once a b h k =
      apart-or (apart-turned (apart-or (apart-turned a) (apart-turned h))) (apart-turned (apart-or k (apart-turned b)))

-- ---- a list of objects

module _ {A : Type 0} {P : A → Type 0} where
  -- one member put in the place of another
  all_set : (l : List A) (k : ℕ) (a : A) → All P l → P a → All P (set l k a)
  all_set [] k a h p = h
  all_set (x ∷ l) zero a h p = all_cons p (λ y m. h y (Memᴰ.tail m))
  all_set (x ∷ l) (suc k) a h p = all_cons (h x (Memᴰ.head refl)) (all_set l k a (λ y m. h y (Memᴰ.tail m)) p)

module _ (m : Object) where
  pub all-filled : {P : Object → Type 0} (k : ℕ) (os : List Object) → All P os → P (joined (object_at os k) m) → All P (filled_at k m os)
  unfolding filled_at
  all-filled k os h p = all_set os k _ h p

  pub length-filled : (k : ℕ) (os : List Object) → length (filled_at k m os) ≡ length os
  unfolding filled_at
  length-filled k os = length-set os k (joined (object_at os k) m)

  -- objects behind those of which one is filled stay
  pub filled-append : (k : ℕ) (os ts : List Object) → k < length os → filled_at k m os ++ ts ≡ filled_at k m (os ++ ts)
  unfolding filled_at
  filled-append k os ts h =
      sym (set-append_left os ts k _ h) ∙ ap (λ o. set (os ++ ts) k (joined o m)) (sym (get_or-append os ts (object 0 0) k h))

  pub filled-here : (k : ℕ) (os : List Object) → k < length os → object_at (filled_at k m os) k ≡ joined (object_at os k) m
  unfolding filled_at
  filled-here k os h = get_or-set_same os k _ (object 0 0) h

  pub filled-other : (k j : ℕ) (os : List Object) → (j ≡ k → ⊥) → object_at (filled_at k m os) j ≡ object_at os j
  unfolding filled_at
  filled-other k j os n = get_or-set_other os k j _ (object 0 0) n

  -- with marks that are known the list is as it was
  pub filled-known : (k : ℕ) (os : List Object) → Sub m.yes_marks (object_at os k).yes_marks → Sub m.no_marks (object_at os k).no_marks
      → filled_at k m os ≡ os
  unfolding filled_at
  filled-known k os a b = ap (set os k) (joined-known (object_at os k) m a b) ∙ set-get_or os k (object 0 0)

  -- every member is there as it was, or filled
  pub filled-member : (k : ℕ) (os : List Object) (o : Object) → Memᴰ o os
      → Memᴰ o (filled_at k m os) ⊎ Memᴰ (joined o m) (filled_at k m os)
  unfolding filled_at
  filled-member zero os o (Memᴰ.head e) = inr (Memᴰ.head (ap (λ p. joined p m) e))
  filled-member (suc k) os o (Memᴰ.head e) = inl (Memᴰ.head e)
  filled-member zero os o (Memᴰ.tail t) = inl (Memᴰ.tail t)
  filled-member (suc k) os o (Memᴰ.tail {xs = xs} t) = go (filled-member k xs o t)
    where
      go : Memᴰ o (filled_at k m xs) ⊎ Memᴰ (joined o m) (filled_at k m xs)
          → Memᴰ o (filled_at (suc k) m os) ⊎ Memᴰ (joined o m) (filled_at (suc k) m os)
      go (inl u) = inl (Memᴰ.tail u)
      go (inr u) = inr (Memᴰ.tail u)

-- an object in the list is a member
pub object-member : (k : ℕ) (os : List Object) → k < length os → Memᴰ (object_at os k) os
object-member k [] h = absurd (omega arith)
object-member zero (o ∷ os) h = Memᴰ.head refl
object-member (suc k) (o ∷ os) h = Memᴰ.tail (object-member k os (omega arith))

-- so is the filled one
pub filled_in : (k : ℕ) (m : Object) (os : List Object) → k < length os → Memᴰ (joined (object_at os k) m) (filled_at k m os)
filled_in k m os h = rw (← filled-here m k os h) (object-member k (filled_at k m os) (rw length-filled h))
