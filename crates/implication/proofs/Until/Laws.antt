-- How passes that are given up at `stop` are put together, and what a round of them says of the closure: it leaves the
-- closure as it is, and where it changes nothing the set is the closure or meets `stop`.
use Rattle.std.specs.Prelude.{◌≡◌, refl, List, [], ◌∷◌, ◌++◌, ℕ}
use Rattle.std.proofs.Common.{sym, ap, ◌∙◌}
use mathlib.Core.List.Memᴰ
use Rattle.std.specs.Int.Bits.{bit_and}
use Rattle.theory.proofs.Lists.Laws.{all_take, all_drop}
use Rattle.theory.specs.Implications.{Implication}
use Rattle.attribute_set.specs.Sets.{Sub}
use Rattle.attribute_set.proofs.Sets.Laws.{sub_refl, sub_trans, sub-antisym, and-apart, apart-and, apart-sub}
use Rattle.implication.specs.Closure.{fire, pass, closure}
use Rattle.implication.proofs.Closure.Laws.{fire-above, fire-least, pass-append, pass_kept, closure-least, closure-mono, closed-closure}
use Rattle.implication.specs.Until.{PassUntil, CloseUntil}

-- what lies inside a set that does not meet stop does not meet it
pub misses : {a b : ℕ} (stop : ℕ) → Sub a b → bit_and b stop ≡ 0 → bit_and a stop ≡ 0
misses {a} {b} stop h e = apart-and (apart-sub h (sub_refl stop) (and-apart b stop e))

-- ---- a pass

-- it is given up where the set meets stop
pub pass-met : (rs : List (Implication ℕ)) (s stop : ℕ) → (bit_and s stop ≡ 0 → ⊥) → PassUntil rs s stop s
pass-met rs s stop n = record { above = sub_refl s; least = λ t c h. h; whole = λ e. absurd (n e) }

-- no implication is left
pub pass-end : (s stop : ℕ) → PassUntil [] s stop s
unfolding pass
pass-end s stop = record { above = sub_refl s; least = λ t c h. h; whole = λ e. refl }

-- one implication, then the others
pub pass-more : (r : Implication ℕ) (rs : List (Implication ℕ)) (s : ℕ) {stop x : ℕ} → PassUntil rs (fire r s) stop x → PassUntil (r ∷ rs) s stop x
unfolding pass
pass-more r rs s p = record {
  above = sub_trans (fire-above r s) p.above;
  least = λ t c h. p.least t (λ q m. c q (Memᴰ.tail m)) (fire-least r s t h (c r (Memᴰ.head refl)));
  whole = p.whole;
}

-- a pass over one list, then over the other
pub pass-both : (xs ys : List (Implication ℕ)) {s stop a b : ℕ} → PassUntil xs s stop a → PassUntil ys a stop b → PassUntil (xs ++ ys) s stop b
pass-both xs ys {s} {stop} p q = record {
  above = sub_trans p.above q.above;
  least = λ t c h. q.least t (all_drop xs ys c) (p.least t (all_take xs ys c) h);
  whole = λ e. q.whole e ∙ ap (pass ys) (p.whole (misses stop q.above e)) ∙ sym (pass-append xs ys s);
}

-- ---- the closure

module _ (rs : List (Implication ℕ)) {s stop b : ℕ} (p : PassUntil rs s stop b) where
  inside-closure : Sub b (closure rs s)
  inside-closure = p.least (closure rs s) (closure-least rs s).member (closure-least rs s).above

  -- a pass leaves the closure as it is
  pub closure-kept : closure rs b ≡ closure rs s
  closure-kept = sub-antisym ((closure-least rs b).least (closure rs s) (closure-least rs s).member inside-closure) (closure-mono rs p.above)

  -- a pass that changes nothing ends the closure
  pub close-end : b ≡ s → CloseUntil (closure rs s) stop s
  close-end e = record {
    least = (closure-least rs s).above;
    whole = λ h. sym (closed-closure rs (pass_kept rs s (sym (p.whole (rw e h)) ∙ e)));
  }

  -- so does one that meets stop
  pub close-met : (bit_and b stop ≡ 0 → ⊥) → CloseUntil (closure rs s) stop b
  close-met n = record { least = inside-closure; whole = λ e. absurd (n e) }
