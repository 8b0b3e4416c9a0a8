-- The lectic order (01, "The interview": of two different sets, the later one holds the smallest property in which they
-- differ; report 001, section 2.1), and where the search for the next closed set starts.
use Rattle.std.specs.Prelude.{◌≡◌, ℕ, ◌+◌, ◌%◌, ◌^◌, ◌<◌}
use Rattle.attribute_set.specs.Sets.{digit, In}

-- a is earlier than b: b holds the smallest attribute in which they differ
pub record Before (a b : ℕ) : Type 0 where
  -- that attribute
  pub at : ℕ
  pub lacks : digit a at ≡ 0
  pub holds : In at b
  pub agree : (i : ℕ) → i < at → digit a i ≡ digit b i

-- the members of x below j
abbrev pub below : ℕ → ℕ → ℕ
below x j = x % 2 ^ j

-- attribute j with the members of x below it
abbrev pub raise : ℕ → ℕ → ℕ
raise x j = 2 ^ j + below x j
