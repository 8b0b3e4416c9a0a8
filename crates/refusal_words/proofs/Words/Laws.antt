-- The line of a number, a byte at a time.
use Rattle.std.specs.Prelude.{◌≡◌, true, false, List, [], ◌∷◌, ◌++◌, ℕ, ◌-◌, eqb}
use Rattle.std.proofs.Common.{eq-eqb, ne_eqb}
use Rattle.refusal_words.specs.Words.{ends, shown, left, line_number}

-- in the line that is sought, and before it
pub ends_at : (k b : ℕ) → k ≡ 0 → eqb b 10 ≡ ends k b
ends_at k b e = rw (eq-eqb k 0 e)

pub ends-before : (k b : ℕ) → (k ≡ 0 → ⊥) → false ≡ ends k b
ends-before k b e = rw (ne_eqb k 0 e)

pub shown-at : (k b : ℕ) → k ≡ 0 → shown k b ≡ b ∷ []
shown-at k b e = rw (eq-eqb k 0 e, shown)

pub shown-before : (k b : ℕ) → (k ≡ 0 → ⊥) → shown k b ≡ []
shown-before k b e = rw (ne_eqb k 0 e, shown)

-- behind a line feed, and behind another byte
pub left-fed : (k b : ℕ) → b ≡ 10 → left k b ≡ k - 1
left-fed k b e = rw (eq-eqb b 10 e, left)

pub left-on : (k b : ℕ) → (b ≡ 10 → ⊥) → left k b ≡ k
left-on k b e = rw (ne_eqb b 10 e, left)

-- the line ends
pub line-ends : (k b : ℕ) (bs : List ℕ) → ends k b ≡ true → line_number k (b ∷ bs) ≡ []
unfolding line_number
line-ends k b bs e = rw (e, line_number)

-- it goes on
pub line_on : (k b : ℕ) (bs : List ℕ) → ends k b ≡ false → line_number k (b ∷ bs) ≡ shown k b ++ line_number (left k b) bs
unfolding line_number
line_on k b bs e = rw (e, line_number)

-- nothing is left
pub line-none : (k : ℕ) (bs : List ℕ) → bs ≡ [] → line_number k bs ≡ []
unfolding line_number
line-none k bs e = rw e
