-- The set of the attributes that pass a test, among the first n.
use Rattle.std.specs.Prelude.{Bool, true, false, ℕ, zero, suc, ◌+◌, ◌^◌}

-- the attributes below n that pass a test
unfoldable pub passing : (ℕ → Bool) → ℕ → ℕ
passing f zero = 0
passing f (suc n) = elim (f n) [ true ↦ 2 ^ n + passing f n | false ↦ passing f n ]
