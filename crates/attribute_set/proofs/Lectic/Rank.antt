-- The place of a set in the lectic order of the subsets of M, as a number: a later set has a larger place, so that a walk
-- through the sets ends.
use Rattle.std.specs.Prelude.{◌≡◌}
use Rattle.std.proofs.Math.Path.{refl}
use Rattle.std.proofs.Math.Logic.{⊎_elim}
use Prim.Native.Nat.{ℕ, zero, suc, ◌+◌, ◌*◌, ◌^◌, ◌≤◌, ◌<◌}
use Rattle.std.proofs.Common.{pow-suc, arith, lit<}
use Rattle.attribute_set.specs.Sets.{digit, Sub, full}
use Rattle.attribute_set.proofs.Sets.Laws.{lt-or-le, digit_lt, full-member}
use Rattle.attribute_set.specs.Lectic.{Before}

-- the place of x among the subsets of n attributes: attribute 0 counts most
unfoldable pub rank : ℕ → ℕ → ℕ
rank zero x = 0
rank (suc n) x = rank n x * 2 + digit x n

pub rank_lt : (n x : ℕ) → rank n x < 2 ^ n
unfolding rank
rank_lt zero x = lit< tt
rank_lt (suc n) x = rw pow-suc (omega (arith, rank_lt n x, digit_lt x n))

module _ {x y : ℕ} (b : Before x y) where
  -- up to the attribute that decides, the places are the same
  rank_same : (n : ℕ) → n ≤ b.at → rank n x ≡ rank n y
  unfolding rank
  rank_same zero h = refl
  rank_same (suc n) h = omega (arith, rank_same n (omega arith), b.agree n h)

  -- past it, that of y is larger
  rank-past : (n : ℕ) → b.at < n → rank n x < rank n y
  unfolding rank
  rank-past zero h = absurd (omega arith)
  rank-past (suc n) h = ⊎_elim (λ l. omega (arith, rank-past n l, digit_lt x n)) (λ l. here (omega arith)) (lt-or-le b.at n)
    where
      here : n ≡ b.at → rank n x * 2 + digit x n < rank n y * 2 + digit y n
      here e = rw e (omega (arith, rank_same b.at (omega arith), b.lacks, b.holds))

pub rank-before : (n : ℕ) {x y : ℕ} → Before x y → Sub y (full n) → rank n x < rank n y
rank-before n b s = rank-past b n (full-member n b.at (s.at b.at b.holds))
