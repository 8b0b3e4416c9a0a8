-- The test of a candidate by code that gives its closure up: it gains nothing below j just if it meets none of the
-- attributes below j that x lacks. So a candidate is taken (`next-taken`) or passed (`next-left`).
use Rattle.std.specs.Prelude.{◌≡◌, List, ℕ, suc, ◌<◌}
use Rattle.std.proofs.Common.{sym, ◌∙◌, ⊎_elim, lt_of_lt_of_le, arith, pow_mono}
use Rattle.std.specs.Int.Bits.{bit_and}
use Rattle.theory.specs.Implications.{Implication}
use Rattle.attribute_set.specs.Sets.{digit, In, Sub, full, without}
use Rattle.attribute_set.proofs.Sets.Laws.{member-cases, digit-without, and-apart, apart-and, without_sub, without-apart, lt-sub-full, full-member}
use Rattle.attribute_set.specs.Lectic.{below, raise}
use Rattle.attribute_set.proofs.Lectic.Laws.{agree_at, agree_of, raise-low, raise-at, raise-lt}
use Rattle.implication.proofs.Closure.Laws.{closure-least}
use Rattle.implication.specs.Until.{CloseUntil}
use Rattle.implication.proofs.Until.Laws.{misses}
use Rattle.next_set.specs.Next.{candidate, next_below}
use Rattle.next_set.proofs.Next.Laws.{next-found, next-passed}

module _ (x j c : ℕ) where
  gains-none : Sub (raise x j) c → bit_and c (without (full j) x) ≡ 0 → below c j ≡ below x j
  gains-none above e = agree_of c x j (λ i h. ⊎_elim (λ p. above.at i (raise-low x j i h ∙ p) ∙ sym p)
      (λ p. ⊎_elim (λ q. absurd ((and-apart c (without (full j) x) e).at i q (omega (arith, digit-without (full j) x i, in-full i h)))) (λ q. q ∙ sym p) (member-cases c i))
      (member-cases x i))
    where
      in-full : (i : ℕ) → i < j → In i (full j)
      in-full i h = (lt-sub-full (raise x i) j (lt_of_lt_of_le (raise-lt x i) (pow_mono h))).at i (raise-at x i)

  none-gained : below c j ≡ below x j → bit_and c (without (full j) x) ≡ 0
  none-gained e = apart-and (record {
    at = λ i h k. (without-apart (full j) x).at i k (sym (agree_at c x j e i (full-member j i ((without_sub (full j) x).at i k))) ∙ h);
  })

module _ (rs : List (Implication ℕ)) (x j : ℕ) {r : ℕ} (u : CloseUntil (candidate rs x j) (without (full j) x) r) where
  -- a candidate that meets none of them is the next closed set
  pub next-taken : digit x j ≡ 0 → bit_and r (without (full j) x) ≡ 0 → next_below rs x (suc j) ≡ r
  next-taken l e =
      let f = u.whole e in
      let same : below (candidate rs x j) j ≡ below x j = gains-none x j (candidate rs x j) (closure-least rs (raise x j)).above (rw f at e) in
      next-found rs x j (record { lacks = l; same = same }) ∙ sym f

  -- one that meets some of them is passed
  pub next-left : (bit_and r (without (full j) x) ≡ 0 → ⊥) → next_below rs x (suc j) ≡ next_below rs x j
  next-left n = next-passed rs x j (λ f. n (misses (without (full j) x) u.least (none-gained x j (candidate rs x j) f.same)))
