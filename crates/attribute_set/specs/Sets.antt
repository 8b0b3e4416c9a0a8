-- Attribute sets as words (01, "Properties, rows, rules": a set of properties is a 64-bit word, bit i for property i).
-- Defined: membership, inclusion, the full set, difference, and the two tests on sets that contracts cite.
-- Union is the library's `bit_or` and meet its `bit_and`; `Laws` proves what each definition says of members.
use Rattle.std.specs.Prelude.{◌≡◌, Bool, not, ℕ, ◌-◌, ◌/◌, ◌%◌, ◌^◌, eqb}
use Rattle.std.specs.Int.Bits.{bit_and}

-- bit i of the word w: 1 where attribute i is a member, else 0
abbrev pub digit : ℕ → ℕ → ℕ
digit w i = w / 2 ^ i % 2

-- attribute i is a member of w
abbrev pub In : ℕ → ℕ → Type 0
In i w = digit w i ≡ 1

-- inclusion: each member of a is a member of b
pub record Sub (a b : ℕ) : Type 0 where
  pub at : (i : ℕ) → In i a → In i b

-- a and b share no member
pub record Apart (a b : ℕ) : Type 0 where
  pub at : (i : ℕ) → In i a → In i b → ⊥

-- the set of all n attributes (01: M)
unfoldable pub full : ℕ → ℕ
full n = 2 ^ n - 1

-- the members of a that b lacks (01: a without b)
unfoldable pub without : ℕ → ℕ → ℕ
without a b = a - bit_and a b

-- the test of inclusion
unfoldable pub inside : ℕ → ℕ → Bool
inside a b = eqb (bit_and a b) a

-- the test for a common member
unfoldable pub meets : ℕ → ℕ → Bool
meets a b = not (eqb (bit_and a b) 0)
