-- The premises that are listed are all sets of M with one or two attributes and no others, each once, in the lectic order
-- (`short-premises`). There are n * (n + 1) / 2 of them, so 2,080 for 64 attributes (`how-many`). No other list is such a one (`no_other`).
use Rattle.std.specs.Prelude.{◌≡◌, List, ℕ, ◌+◌, ◌*◌, length}
use Rattle.std.proofs.Common.{mul-add, arith}
use Rattle.short_premises.specs.Premises.{premises, ListsShort}
use Rattle.short_premises.proofs.Premises.Laws.{listed, listed-there, led-short, led-within, short-led, sorted, places-ordered, ordered-places, places-once, same_list, below_length}

pub short-premises : (n : ℕ) → ListsShort n (premises n)
short-premises n = record {
  all = λ s w o. let r = short-led n s w o in listed-there n n s r.0 r.1 r.2;
  within = λ s m. let r = listed n n s m in led-within r.1 r.2;
  short = λ s m. led-short (listed n n s m).2;
  once = places-once (premises n) (sorted n n);
  in_order = places-ordered (premises n) (sorted n n);
}

pub how-many : (n : ℕ) → length (premises n) * 2 ≡ n * (n + 1)
how-many n = omega (arith, below_length n n (omega arith), mul-add n n 1)

pub no_other : (n : ℕ) (l : List ℕ) → ListsShort n l → l ≡ premises n
no_other n l h = same_list l (premises n) (ordered-places l h.in_order) (sorted n n)
    (λ s m. (short-premises n).all s (h.within s m) (h.short s m))
    (λ s m. h.all s ((short-premises n).within s m) ((short-premises n).short s m))
