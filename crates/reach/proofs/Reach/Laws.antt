-- The reach is the largest subset X of M for which no object refutes P → X: it lies inside M (`reach-inside`), no object
-- refutes P → reach (`reach-spared`), and each such X lies inside it (`reach-largest`).
-- One object more leaves less, so do marks that become known, and objects that lack nothing change nothing.
use Rattle.std.specs.Prelude.{◌≡◌, ◌⊎◌, false, ℕ}
use Rattle.std.proofs.Math.Path.{refl}
use Rattle.std.proofs.Common.{sym, ap, ◌∙◌, inl, inr}
use mathlib.Core.List.{List, [], ◌∷◌, ◌++◌, Memᴰ}
use Rattle.theory.specs.Lists.{All}
use Rattle.theory.specs.Implications.{Implication}
use Rattle.attribute_set.specs.Sets.{Sub, Apart, full, without}
use Rattle.attribute_set.proofs.Sets.Laws.{sub_refl, sub_trans, sub-antisym, sub-inside, not-inside, sub_dec, apart-sub, without_sub, without-apart, without-great, without-and, without-none}
use Rattle.implication.specs.Closure.{implication}
use Rattle.implication.proofs.Pairs.Laws.{pairs-whole}
use Rattle.context.specs.Objects.{Object, object, objects_of, has, lacks, refutes, whole}
use Rattle.context.proofs.Objects.Laws.{has_more, lacks-more, unmarked-lacks, lacks-none, not-refutes, spares}
use Rattle.context.specs.Filling.{joined, filled_at}
use Rattle.context.proofs.Filling.Laws.{has-joined, lacks-joined, filled-member}
use Rattle.context.specs.Parts.{refuted_part}
use Rattle.context.proofs.Parts.Laws.{part-taken, part_left}
use Rattle.reach.specs.Reach.{cut, narrow, reach}

module _ (rs : List (Implication ℕ)) (p : ℕ) where
  -- ---- one object

  module _ (o : Object) (x : ℕ) where
    -- where o has p, what it lacks is taken away; where it has not, nothing is
    pub cut-taken : Sub p (has rs o) → cut rs p o x ≡ without x (lacks rs o)
    unfolding cut
    cut-taken h = rw (cut, sub-inside h)

    pub cut_left : (Sub p (has rs o) → ⊥) → cut rs p o x ≡ x
    unfolding cut
    cut_left n = rw (cut, not-inside n)

    -- the same by cases
    cut-cases : (P : ℕ → Type 0) → (Sub p (has rs o) → P (without x (lacks rs o))) → ((Sub p (has rs o) → ⊥) → P x) → P (cut rs p o x)
    cut-cases P in' out = go (sub_dec p (has rs o))
      where
        go : Dec (Sub p (has rs o)) → P (cut rs p o x)
        go (yes h) = rw (cut-taken h) (in' h)
        go (no n) = rw (cut_left n) (out n)

    -- what is taken away is what o refutes of x
    pub cut-part : cut rs p o x ≡ without x (refuted_part rs o (implication p x))
    cut-part = go (sub_dec p (has rs o))
      where
        go : Dec (Sub p (has rs o)) → cut rs p o x ≡ without x (refuted_part rs o (implication p x))
        go (yes h) = cut-taken h ∙ sym (ap (without x) (part-taken rs o (implication p x) h) ∙ without-and x (lacks rs o))
        go (no n) = cut_left n ∙ sym (ap (without x) (part_left rs o (implication p x) n) ∙ without-none x)

    pub cut_inside : Sub (cut rs p o x) x
    cut_inside = cut-cases (λ y. Sub y x) (λ h. without_sub x (lacks rs o)) (λ h. sub_refl x)

    pub cut_apart : Sub p (has rs o) → Apart (cut rs p o x) (lacks rs o)
    cut_apart h = rw (cut-taken h) (without-apart x (lacks rs o))

    pub cut-great : {z : ℕ} → Sub z x → (Sub p (has rs o) → Apart z (lacks rs o)) → Sub z (cut rs p o x)
    cut-great {z} s d = cut-cases (λ y. Sub z y) (λ h. without-great s (d h)) (λ h. s)

  -- ---- each object once

  pub narrow-append : (os ts : List Object) (x : ℕ) → narrow rs p (os ++ ts) x ≡ narrow rs p ts (narrow rs p os x)
  unfolding narrow
  narrow-append [] ts x = refl
  narrow-append (o ∷ os) ts x = narrow-append os ts (cut rs p o x)

  pub narrow-inside : (os : List Object) (x : ℕ) → Sub (narrow rs p os x) x
  unfolding narrow
  narrow-inside [] x = sub_refl x
  narrow-inside (o ∷ os) x = sub_trans (narrow-inside os (cut rs p o x)) (cut_inside o x)

  apart_from : (o : Object) (os : List Object) (x : ℕ) → Memᴰ o os → Sub p (has rs o) → Apart (narrow rs p os x) (lacks rs o)
  unfolding narrow
  apart_from o os x (Memᴰ.head {xs = xs} e) h =
      apart-sub (narrow-inside xs _) (sub_refl _) (rw (← e) (cut_apart o x h))
  apart_from o os x (Memᴰ.tail {x = y} {xs = xs} m) h = apart_from o xs (cut rs p y x) m h

  pub narrow-apart : (os : List Object) (x : ℕ) (o : Object) → Memᴰ o os → Sub p (has rs o) → Apart (narrow rs p os x) (lacks rs o)
  narrow-apart os x o m h = apart_from o os x m h

  pub narrow-great : (os : List Object) (x : ℕ) {z : ℕ} → Sub z x → ((o : Object) → Memᴰ o os → Sub p (has rs o) → Apart z (lacks rs o))
      → Sub z (narrow rs p os x)
  unfolding narrow
  narrow-great [] x s d = s
  narrow-great (o ∷ os) x s d =
      narrow-great os (cut rs p o x) (cut-great o x s (d o (Memᴰ.head refl))) (λ y m. d y (Memᴰ.tail m))

  -- objects that lack nothing change nothing
  pub narrow-idle : (ts : List Object) → All (λ o. lacks rs o ≡ 0) ts → (x : ℕ) → narrow rs p ts x ≡ x
  narrow-idle ts h x = sub-antisym (narrow-inside ts x) (narrow-great ts x (sub_refl x) (λ o m k. lacks-none rs o (h o m) x))

-- ---- the reach

module _ (rs : List (Implication ℕ)) (n : ℕ) (os : List Object) (p : ℕ) where
  pub reach-apart : (o : Object) → Memᴰ o os → Sub p (has rs o) → Apart (reach rs n os p) (lacks rs o)
  unfolding reach
  reach-apart o m h = narrow-apart rs p os (full n) o m h

  pub reach-great : {x : ℕ} → Sub x (full n) → ((o : Object) → Memᴰ o os → Sub p (has rs o) → Apart x (lacks rs o))
      → Sub x (reach rs n os p)
  unfolding reach
  reach-great s d = narrow-great rs p os (full n) s d

  pub reach-inside : Sub (reach rs n os p) (full n)
  unfolding reach
  reach-inside = narrow-inside rs p os (full n)

  pub reach-spared : All (λ o. refutes rs o (implication p (reach rs n os p)) ≡ false) os
  reach-spared o m = spares rs o (implication p (reach rs n os p)) (reach-apart o m)

  pub reach-largest : (x : ℕ) → Sub x (full n) → All (λ o. refutes rs o (implication p x) ≡ false) os → Sub x (reach rs n os p)
  reach-largest x s h = reach-great s (λ o m. not-refutes rs o (implication p x) (h o m))

  -- one object more leaves less
  pub reach-snoc : (o : Object) → Sub (reach rs n (os ++ (o ∷ [])) p) (reach rs n os p)
  unfolding reach
  reach-snoc o = rw (narrow-append rs p os (o ∷ []) (full n)) (narrow-inside rs p (o ∷ []) (narrow rs p os (full n)))

-- with marks added to an object the reach is no larger
pub reach-filled : (rs : List (Implication ℕ)) (n : ℕ) (os : List Object) (p k : ℕ) (m : Object) → Sub (reach rs n (filled_at k m os) p) (reach rs n os p)
reach-filled rs n os p k m = reach-great rs n os p (reach-inside rs n filled p) (λ o t h. spared o h (filled-member m k os o t))
  where
    filled : List Object
    filled = filled_at k m os

    spared : (o : Object) → Sub p (has rs o) → Memᴰ o filled ⊎ Memᴰ (joined o m) filled → Apart (reach rs n filled p) (lacks rs o)
    spared o h (inl t) = reach-apart rs n filled p o t h
    spared o h (inr t) =
        apart-sub (sub_refl (reach rs n filled p)) (lacks-joined rs o m) (reach-apart rs n filled p (joined o m) t (sub_trans h (has-joined rs o m)))

-- what is counted past the whole objects of a slice changes no reach
pub reach-whole : (rs : List (Implication ℕ)) (n count : ℕ) (ws : List ℕ) (p : ℕ)
    → reach rs n (objects_of count ws) p ≡ reach rs n (objects_of (whole count ws) ws) p
unfolding reach
reach-whole rs n count ws p =
    let t = pairs-whole object (λ o. lacks rs o ≡ 0) (λ a. unmarked-lacks rs (object a 0) refl) count ws in
    ap (λ os. narrow rs p os (full n)) t.1 ∙ narrow-append rs p (objects_of (whole count ws) ws) t.0 (full n)
    ∙ narrow-idle rs p t.0 t.2 _

-- with more implications in force the reach is no larger
pub reach-more : (rs ts : List (Implication ℕ)) (n : ℕ) (os : List Object) (p : ℕ) → Sub (reach (rs ++ ts) n os p) (reach rs n os p)
reach-more rs ts n os p = reach-great rs n os p (reach-inside (rs ++ ts) n os p)
    (λ o m h. apart-sub (sub_refl (reach (rs ++ ts) n os p)) (lacks-more rs ts o) (reach-apart (rs ++ ts) n os p o m (sub_trans h (has_more rs ts o))))
