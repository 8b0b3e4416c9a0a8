-- The digits of a number from the first to the last: a power of ten says where the first one stands, and each next power the next.
use Rattle.std.specs.Prelude.{◌≡◌, List, [], ◌∷◌, ◌++◌, ℕ, zero, suc, ◌+◌, ◌/◌, ◌%◌, ◌^◌}
use Rattle.text.specs.Text.{number_text}

-- the last k digits, leading zeros too
unfoldable pub low : ℕ → ℕ → List ℕ
low zero n = []
low (suc k) n = low k (n / 10) ++ ((48 + n % 10) ∷ [])

-- the power of ten of the first of k digits; 0 where there is none
unfoldable pub lead : ℕ → ℕ
lead zero = 0
lead (suc k) = 10 ^ k

-- a power of ten that the digits of n begin at
pub record Leads (n power : ℕ) : Type 0 where
  pub size : ℕ
  pub first : power ≡ lead size
  pub whole : number_text n ≡ low size n
