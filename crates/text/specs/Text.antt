-- Numbers and sets as text, in bytes (01, "The program"): decimal digits, and one character for each attribute.
use Rattle.std.specs.Prelude.{List, [], ◌∷◌, ◌++◌, true, false, ℕ, zero, suc, ◌+◌, ◌/◌, ◌%◌, ltb}
pub mod Digits

-- the decimal digits of a number, no leading zero, at most k of them
unfoldable pub digits : ℕ → ℕ → List ℕ
digits zero n = []
digits (suc k) n = elim (ltb n 10) [ true ↦ (48 + n) ∷ [] | false ↦ digits k (n / 10) ++ ((48 + n % 10) ∷ []) ]

-- a number; 20 digits hold every word
abbrev pub number_text : ℕ → List ℕ
number_text n = digits 20 n

-- one character per attribute: `X` for a member, `.` for another
abbrev pub mark_text : ℕ → ℕ
mark_text zero = 46
mark_text (suc d) = 88

unfoldable pub set_text : ℕ → ℕ → List ℕ
set_text zero w = []
set_text (suc n) w = mark_text (w % 2) ∷ set_text n (w / 2)

abbrev pub space : List ℕ
space = 32 ∷ []

abbrev pub newline : List ℕ
newline = 10 ∷ []
