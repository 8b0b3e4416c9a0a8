-- The closure of a set is the least closed set above it, for every list of implications and every set (`closure-least`);
-- it is monotone and idempotent, stays inside M, and does not mind implications whose conclusion is empty. What follows from some implications
-- follows from more (`follows-more`).
use Rattle.std.specs.Prelude.{◌≡◌, Bool, length, eqb}
use Rattle.std.proofs.Math.Path.{refl}
use Rattle.std.proofs.Common.{sym, ap, ◌∙◌, subst, le_trans, eqb-true}
use Rattle.std.proofs.Math.Bool.{true, false}
use mathlib.Core.List.Memᴰ
use mathlib.Core.List.{List, [], ◌∷◌, ◌++◌, Memᴰ, append_assoc}
use Prim.Native.Nat.{ℕ, zero, suc, ◌/◌, ◌≤◌, ◌<◌, min}
use Rattle.std.proofs.Math.Nat.{le_refl}
use native.Mathlib.Omega.{arith}
use Rattle.std.specs.Int.Bits.{bit_or}
use Rattle.std.proofs.lemmas.Bool.{eqb-false}
use Rattle.theory.specs.Lists.{All}
use Rattle.theory.proofs.Lists.Laws.{all_nil, all_cons, all_append, all_take, all_snoc}
use Rattle.theory.specs.Implications.{Implication, Respects, Closed, Least, Over}
use Rattle.theory.proofs.Implications.Laws.{least-one, least-same}
use Rattle.attribute_set.specs.Sets.{Sub, inside, full}
use Rattle.attribute_set.proofs.Sets.Laws.{sub_refl, sub_trans, sub-antisym, inside-sub, sub-inside, outside-sub, or_left, or_right, or-least, or-inside, le-or, none-sub}
use Rattle.attribute_set.proofs.Words.{words}
use Rattle.implication.proofs.Pairs.Laws.{pairs-whole}
use Rattle.implication.specs.Closure.{implication, implications_of, in_force, fire, pass, close, closure, follows}

-- ---- one implication

module _ (r : Implication ℕ) (s : ℕ) where
  -- what holds of s with the conclusion, where s contains the premise, and of s, where it does not, holds of fire r s
  fire-cases {ℓ} : (P : ℕ → Type ℓ) → (Sub r.premise s → P (bit_or s r.conclusion)) → ((Sub r.premise s → ⊥) → P s) → P (fire r s)
  unfolding fire
  fire-cases P in' out = go (inside r.premise s) refl
    where
      go : (b : Bool) → inside r.premise s ≡ b → P (elim b [ true ↦ bit_or s r.conclusion | false ↦ s ])
      go true e = in' (inside-sub _ _ e)
      go false e = out (outside-sub _ _ e)

  pub fire-above : Sub s (fire r s)
  fire-above = fire-cases (λ x. Sub s x) (λ h. or_left s r.conclusion) (λ h. sub_refl s)

  pub fire-le : s ≤ fire r s
  fire-le = fire-cases (λ x. s ≤ x) (λ h. le-or s r.conclusion) (λ h. le_refl s)

  pub fire-least : (t : ℕ) → Sub s t → Respects words r t → Sub (fire r s) t
  fire-least t hs hr = fire-cases (λ x. Sub x t) (λ h. or-least hs (hr (sub_trans h hs))) (λ h. hs)

  pub fire-taken : Sub r.premise s → fire r s ≡ bit_or s r.conclusion
  fire-taken h = fire-cases (λ x. x ≡ bit_or s r.conclusion) (λ k. refl) (λ k. absurd (k h))

  pub fire-left : (Sub r.premise s → ⊥) → fire r s ≡ s
  fire-left h = fire-cases (λ x. x ≡ s) (λ k. absurd (h k)) (λ k. refl)

  fire-kept : fire r s ≡ s → Respects words r s
  fire-kept e h = subst (λ x. Sub r.conclusion x) (sym (fire-taken h) ∙ e) (or_right s r.conclusion)

  -- where it changes the set it brings a conclusion that was not there
  fire-new : (fire r s ≡ s → ⊥) → (Sub r.conclusion s → ⊥) × Sub r.conclusion (fire r s)
  fire-new n = fire-cases (λ x. (x ≡ s → ⊥) → (Sub r.conclusion s → ⊥) × Sub r.conclusion x)
      (λ h k. (λ i. k (or-inside i), or_right s r.conclusion)) (λ h k. absurd (k refl)) n

-- ---- a pass

pub pass-append : (xs ys : List (Implication ℕ)) (s : ℕ) → pass (xs ++ ys) s ≡ pass ys (pass xs s)
unfolding pass
pass-append [] ys s = refl
pass-append (r ∷ xs) ys s = pass-append xs ys (fire r s)

pub pass-above : (rs : List (Implication ℕ)) (s : ℕ) → Sub s (pass rs s)
unfolding pass
pass-above [] s = sub_refl s
pass-above (r ∷ rs) s = sub_trans (fire-above r s) (pass-above rs (fire r s))

pub pass_le : (rs : List (Implication ℕ)) (s : ℕ) → s ≤ pass rs s
unfolding pass
pass_le [] s = le_refl s
pass_le (r ∷ rs) s = le_trans (fire-le r s) (pass_le rs (fire r s))

pub pass-least : (rs : List (Implication ℕ)) (s t : ℕ) → Closed words rs t → Sub s t → Sub (pass rs s) t
unfolding pass
pass-least [] s t c h = h
pass-least (r ∷ rs) s t c h =
    pass-least rs (fire r s) t (λ x m. c x (Memᴰ.tail m)) (fire-least r s t h (c r (Memᴰ.head refl)))

pub pass_kept : (rs : List (Implication ℕ)) (s : ℕ) → pass rs s ≡ s → Closed words rs s
unfolding pass
pass_kept [] s e = all_nil _
pass_kept (r ∷ rs) s e =
    let f : fire r s ≡ s = omega (arith, fire-le r s, pass_le rs (fire r s)) in
    all_cons (fire-kept r s f) (pass_kept rs s (ap (pass rs) (sym f) ∙ e))

-- a pass that changes the set brings a conclusion that was not there
pass-new : (rs : List (Implication ℕ)) (s : ℕ) → (pass rs s ≡ s → ⊥)
    → (r : Implication ℕ) × Memᴰ r rs × (Sub r.conclusion s → ⊥) × Sub r.conclusion (pass rs s)
unfolding pass
pass-new [] s n = absurd (n refl)
pass-new (r ∷ rs) s n = go (eqb (fire r s) s) refl (pass-new rs (fire r s))
  where
    go : (b : Bool) → eqb (fire r s) s ≡ b
        → ((pass rs (fire r s) ≡ fire r s → ⊥)
        → (x : Implication ℕ) × Memᴰ x rs × (Sub x.conclusion (fire r s) → ⊥) × Sub x.conclusion (pass rs (fire r s)))
        → (x : Implication ℕ) × Memᴰ x (r ∷ rs) × (Sub x.conclusion s → ⊥) × Sub x.conclusion (pass rs (fire r s))
    go true e ih =
        let f = eqb-true _ _ e in
        let t = ih (λ k. n (k ∙ f)) in
        (t.0, Memᴰ.tail t.1, λ h. t.2 (sub_trans h (fire-above r s)), t.3)
    go false e ih =
        let t = fire-new r s (eqb-false _ _ e) in
        (r, Memᴰ.head refl, t.0, sub_trans t.1 (pass-above rs (fire r s)))

-- ---- how many conclusions are not yet inside

missing : List (Implication ℕ) → ℕ → ℕ
missing [] s = 0
missing (r ∷ rs) s = elim (inside r.conclusion s) [ true ↦ missing rs s | false ↦ suc (missing rs s) ]

missing-most : (rs : List (Implication ℕ)) (s : ℕ) → missing rs s ≤ length rs
unfolding missing
missing-most [] s = le_refl 0
missing-most (r ∷ rs) s = go (inside r.conclusion s) (missing-most rs s)
  where
    go : (b : Bool) → missing rs s ≤ length rs → elim b as (λ x. ℕ) [ true ↦ missing rs s | false ↦ suc (missing rs s) ] ≤ suc (length rs)
    go true h = omega arith
    go false h = omega arith

module _ (s t : ℕ) (h : Sub s t) where
  missing-mono : (rs : List (Implication ℕ)) → missing rs t ≤ missing rs s
  unfolding missing
  missing-mono [] = le_refl 0
  missing-mono (r ∷ rs) = go (inside r.conclusion s) refl (inside r.conclusion t) refl (missing-mono rs)
    where
      go : (a : Bool) → inside r.conclusion s ≡ a → (b : Bool) → inside r.conclusion t ≡ b → missing rs t ≤ missing rs s
          → elim b as (λ x. ℕ) [ true ↦ missing rs t | false ↦ suc (missing rs t) ]
          ≤ elim a as (λ x. ℕ) [ true ↦ missing rs s | false ↦ suc (missing rs s) ]
      go true e true f k = k
      go true e false f k = absurd (outside-sub _ _ f (sub_trans (inside-sub _ _ e) h))
      go false e true f k = omega arith
      go false e false f k = omega arith

  missing-less : (r : Implication ℕ) (rs : List (Implication ℕ)) → Memᴰ r rs → (Sub r.conclusion s → ⊥) → Sub r.conclusion t
      → missing rs t < missing rs s
  unfolding missing
  missing-less r rs (Memᴰ.head {x = x} {xs = xs} e) n y = go (inside x.conclusion s) refl (inside x.conclusion t) refl (missing-mono xs)
    where
      go : (a : Bool) → inside x.conclusion s ≡ a → (b : Bool) → inside x.conclusion t ≡ b → missing xs t ≤ missing xs s
          → elim b as (λ x. ℕ) [ true ↦ missing xs t | false ↦ suc (missing xs t) ]
          < elim a as (λ x. ℕ) [ true ↦ missing xs s | false ↦ suc (missing xs s) ]
      go true p b q k = absurd (n (rw e (inside-sub _ _ p)))
      go false p true q k = omega arith
      go false p false q k = absurd (outside-sub _ _ q (rw (← e) y))
  missing-less r rs (Memᴰ.tail {x = x} {xs = xs} m) n y =
      go (inside x.conclusion s) refl (inside x.conclusion t) refl (missing-less r xs m n y)
    where
      go : (a : Bool) → inside x.conclusion s ≡ a → (b : Bool) → inside x.conclusion t ≡ b → missing xs t < missing xs s
          → elim b as (λ x. ℕ) [ true ↦ missing xs t | false ↦ suc (missing xs t) ]
          < elim a as (λ x. ℕ) [ true ↦ missing xs s | false ↦ suc (missing xs s) ]
      go true p true q k = k
      go true p false q k = absurd (outside-sub _ _ q (sub_trans (inside-sub _ _ p) h))
      go false p true q k = omega arith
      go false p false q k = omega arith

pass-fewer : (rs : List (Implication ℕ)) (s : ℕ) → (pass rs s ≡ s → ⊥) → missing rs (pass rs s) < missing rs s
pass-fewer rs s n = let t = pass-new rs s n in missing-less s (pass rs s) (pass-above rs s) t.0 rs t.1 t.2 t.3

-- ---- the closure

close-above : (k : ℕ) (rs : List (Implication ℕ)) (s : ℕ) → Sub s (close k rs s)
unfolding close
close-above zero rs s = sub_refl s
close-above (suc k) rs s = go (eqb (pass rs s) s) (close-above k rs (pass rs s))
  where
    go : (b : Bool) → Sub (pass rs s) (close k rs (pass rs s)) → Sub s (elim b [ true ↦ s | false ↦ close k rs (pass rs s) ])
    go true h = sub_refl s
    go false h = sub_trans (pass-above rs s) h

close-least : (k : ℕ) (rs : List (Implication ℕ)) (s t : ℕ) → Closed words rs t → Sub s t → Sub (close k rs s) t
unfolding close
close-least zero rs s t c h = h
close-least (suc k) rs s t c h = go (eqb (pass rs s) s) (close-least k rs (pass rs s) t c (pass-least rs s t c h))
  where
    go : (b : Bool) → Sub (close k rs (pass rs s)) t → Sub (elim b [ true ↦ s | false ↦ close k rs (pass rs s) ]) t
    go true i = h
    go false i = i

close-closed : (k : ℕ) (rs : List (Implication ℕ)) (s : ℕ) → missing rs s ≤ k → Closed words rs (close k rs s)
unfolding close
close-closed zero rs s h = go (eqb (pass rs s) s) refl
  where
    go : (b : Bool) → eqb (pass rs s) s ≡ b → Closed words rs s
    go true e = pass_kept rs s (eqb-true _ _ e)
    go false e = absurd (omega (arith, pass-fewer rs s (eqb-false _ _ e)))
close-closed (suc k) rs s h = go (eqb (pass rs s) s) refl (λ i. close-closed k rs (pass rs s) i)
  where
    go : (b : Bool) → eqb (pass rs s) s ≡ b → (missing rs (pass rs s) ≤ k → Closed words rs (close k rs (pass rs s)))
        → Closed words rs (elim b [ true ↦ s | false ↦ close k rs (pass rs s) ])
    go true e ih = pass_kept rs s (eqb-true _ _ e)
    go false e ih = ih (omega (arith, pass-fewer rs s (eqb-false _ _ e)))

-- the closure is the least closed set above the set
pub closure-least : (rs : List (Implication ℕ)) (s : ℕ) → Least words (Closed words rs) s (closure rs s)
unfolding closure
closure-least rs s = record {
  above = close-above _ rs s;
  member = close-closed _ rs s (missing-most rs s);
  least = λ t c h. close-least _ rs s t c h;
}

module _ (rs : List (Implication ℕ)) where
  pub closure-mono : {s t : ℕ} → Sub s t → Sub (closure rs s) (closure rs t)
  closure-mono {s} {t} h = (closure-least rs s).least (closure rs t) (closure-least rs t).member (sub_trans h (closure-least rs t).above)

  -- a set is its own closure just if it is closed
  pub closed-closure : {s : ℕ} → Closed words rs s → closure rs s ≡ s
  closed-closure {s} c = sub-antisym ((closure-least rs s).least s c (sub_refl s)) (closure-least rs s).above

  pub closure-closed : (s : ℕ) → closure rs s ≡ s → Closed words rs s
  closure-closed s e = subst (λ x. Closed words rs x) e (closure-least rs s).member

  pub closure-idempotent : (s : ℕ) → closure rs (closure rs s) ≡ closure rs s
  closure-idempotent s = closed-closure (closure-least rs s).member

  pub full-closed : (n : ℕ) → All (Over words (full n)) rs → Closed words rs (full n)
  full-closed n over r m h = (over r m).conclusion

  -- what is inside M stays inside
  pub closure-inside : (n : ℕ) → All (Over words (full n)) rs → {s : ℕ} → Sub s (full n) → Sub (closure rs s) (full n)
  closure-inside n over {s} h = (closure-least rs s).least (full n) (full-closed n over) h

  -- the test of following is right
  pub follows-sub : (r : Implication ℕ) → follows rs r ≡ true → Sub r.conclusion (closure rs r.premise)
  unfolding follows
  follows-sub r e = inside-sub _ _ e

  pub sub-follows : (r : Implication ℕ) → Sub r.conclusion (closure rs r.premise) → follows rs r ≡ true
  unfolding follows
  sub-follows r h = sub-inside h

-- implications with an empty conclusion change no closure
pub closure-idle : (rs ts : List (Implication ℕ)) → All (λ r. r.conclusion ≡ 0) ts → (s : ℕ) → closure (rs ++ ts) s ≡ closure rs s
closure-idle rs ts h s =
    least-one words (closure-least (rs ++ ts) s)
    (least-same words (λ q c. all_append rs ts c (λ r m i. rw (h r m) (none-sub q))) (λ q c. all_take rs ts c) (closure-least rs s))

-- what is counted past the whole pairs of a list changes no closure
pub closure-whole : (background list : List ℕ) (n s : ℕ)
    → closure (in_force background list n) s ≡ closure (in_force background list (min n (length list / 2))) s
closure-whole background list n s =
    let t = pairs-whole implication (λ r. r.conclusion ≡ 0) (λ a. refl) n list in
    let bs = implications_of (length background / 2) background in
    let xs = implications_of (min n (length list / 2)) list in
    ap (λ l. closure (bs ++ l) s) t.1 ∙ ap (λ l. closure l s) (sym (append_assoc bs xs t.0)) ∙ closure-idle (bs ++ xs) t.0 t.2 s

-- what lies between a set and its closure has the same closure
pub closure-between : (rs : List (Implication ℕ)) {s t : ℕ} → Sub s t → Sub t (closure rs s) → closure rs t ≡ closure rs s
closure-between rs {s} {t} h k = sub-antisym ((closure-least rs t).least (closure rs s) (closure-least rs s).member k) (closure-mono rs h)

-- more implications close further
pub closure-more : (rs ts : List (Implication ℕ)) (s : ℕ) → Sub (closure rs s) (closure (rs ++ ts) s)
closure-more rs ts s =
    let c = closure-least (rs ++ ts) s in
    (closure-least rs s).least (closure (rs ++ ts) s) (all_take rs ts c.member) c.above

-- what follows from some implications follows from more, and what is listed follows
pub follows-more : (rs ts : List (Implication ℕ)) (r : Implication ℕ) → follows rs r ≡ true → follows (rs ++ ts) r ≡ true
follows-more rs ts r e = sub-follows (rs ++ ts) r (sub_trans (follows-sub rs r e) (closure-more rs ts r.premise))

pub listed-follows : (rs : List (Implication ℕ)) (r : Implication ℕ) → Memᴰ r rs → follows rs r ≡ true
listed-follows rs r m = let c = closure-least rs r.premise in sub-follows rs r (c.member r m c.above)

-- one implication more: where the closure respects it, it is the closure under all
pub one-more-end : (rs : List (Implication ℕ)) (r : Implication ℕ) (s : ℕ) → Respects words r (closure rs s) → closure (rs ++ (r ∷ [])) s ≡ closure rs s
one-more-end rs r s h =
    let c = closure-least rs s in
    sub-antisym ((closure-least (rs ++ (r ∷ [])) s).least (closure rs s) (all_snoc rs r c.member h) c.above) (closure-more rs (r ∷ []) s)

-- and where it does not, its conclusion is added, and the closure under all is the same
pub one-more-again : (rs : List (Implication ℕ)) (r : Implication ℕ) (s : ℕ) → Sub r.premise (closure rs s)
    → closure (rs ++ (r ∷ [])) (bit_or (closure rs s) r.conclusion) ≡ closure (rs ++ (r ∷ [])) s
one-more-again rs r s h =
    let c = closure-least (rs ++ (r ∷ [])) s in
    let k = closure-more rs (r ∷ []) s in
    closure-between (rs ++ (r ∷ [])) (sub_trans (closure-least rs s).above (or_left (closure rs s) r.conclusion))
    (or-least k (c.member r (Memᴰ.append_right rs (Memᴰ.head refl)) (sub_trans h k)))
