-- The lines of the program's output that have a rule, as bytes (01, "The program"): Q and L lines, each closed by a line feed.
use Rattle.std.specs.Prelude.{List, [], ◌∷◌, ◌++◌, ℕ, ◌/◌, min, length}
use Rattle.theory.specs.Implications.{Implication}
use Rattle.implication.specs.Closure.{implications_of}
use Rattle.text.specs.Text.{number_text, set_text, space, newline}

-- premise, conclusion
abbrev pub rule_text : ℕ → Implication ℕ → List ℕ
rule_text n r = set_text n r.premise ++ (space ++ set_text n r.conclusion)

-- `Q`, the question, ` yes`
abbrev pub yes_line : ℕ → Implication ℕ → List ℕ
yes_line n q = 81 ∷ 32 ∷ (rule_text n q ++ (32 ∷ 121 ∷ 101 ∷ 115 ∷ newline))

-- `Q`, the question, ` no `, and the file row, counted from 1
abbrev pub no_line : ℕ → Implication ℕ → ℕ → List ℕ
no_line n q row = 81 ∷ 32 ∷ (rule_text n q ++ (32 ∷ 110 ∷ 111 ∷ 32 ∷ (number_text row ++ newline)))

-- `L`, a rule of the list
unfoldable pub list_lines : ℕ → List (Implication ℕ) → List ℕ
list_lines n [] = []
list_lines n (r ∷ rs) = 76 ∷ 32 ∷ (rule_text n r ++ (newline ++ list_lines n rs))

-- the first count rules of a slice, as far as it has them whole
abbrev pub whole_rules : ℕ → List ℕ → List (Implication ℕ)
whole_rules count list = implications_of (min count (length list / 2)) list
