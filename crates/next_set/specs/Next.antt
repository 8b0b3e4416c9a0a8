-- The next closed set (01, "The interview": the earliest one after the current that equals its own closure under the rules
-- in force), found by Ganter's search downwards (report 001, section 2.1). `Laws` proves that it is that set.
use Rattle.std.specs.Prelude.{◌≡◌, ◌⊎◌, Bool, true, false, ◌&&◌, List, ℕ, zero, suc, eqb}
use Rattle.theory.specs.Implications.{Implication, Closed}
use Rattle.attribute_set.specs.Sets.{digit, Sub, full}
use Rattle.attribute_set.specs.Lectic.{Before, below, raise}
use Rattle.attribute_set.proofs.Words.{words}
use Rattle.implication.specs.Closure.{closure}

-- the candidate at j: the closure of attribute j with the members of x below it
abbrev pub candidate : List (Implication ℕ) → ℕ → ℕ → ℕ
candidate rs x j = closure rs (raise x j)

-- the candidate at j is one to take: x lacks j, and the candidate gains nothing below j
unfoldable pub fits : List (Implication ℕ) → ℕ → ℕ → Bool
fits rs x j = eqb (digit x j) 0 && eqb (below (candidate rs x j) j) (below x j)

-- the candidate of the largest attribute below j that fits, or else x
unfoldable pub next_below : List (Implication ℕ) → ℕ → ℕ → ℕ
next_below rs x zero = x
next_below rs x (suc j) = elim (fits rs x j) [ true ↦ candidate rs x j | false ↦ next_below rs x j ]

-- the next closed set after x, of n attributes
abbrev pub next : List (Implication ℕ) → ℕ → ℕ → ℕ
next rs n x = next_below rs x n

-- what makes r the next closed set after x: closed, inside M, later, and no closed subset of M strictly between
pub record IsNext (rs : List (Implication ℕ)) (n x r : ℕ) : Type 0 where
  pub closed : Closed words rs r
  pub inside : Sub r (full n)
  pub later : Before x r
  pub first : (q : ℕ) → Closed words rs q → Sub q (full n) → Before x q → (r ≡ q) ⊎ Before r q
