-- The line that closes the program's output, as bytes (01, "The program"): an END or an E line, with its line feed.
use Rattle.std.specs.Prelude.{List, ◌∷◌, ◌++◌, ℕ}
use Rattle.session.specs.declared.Refusal.{Refusal}
use Rattle.text.specs.Text.{number_text, space, newline}

-- `END`, rules, rows in use, changes of the current set
abbrev pub end_line : ℕ → ℕ → ℕ → List ℕ
end_line rules rows changes =
    69 ∷ 78 ∷ 68 ∷ 32 ∷ (number_text rules ++ (space ++ (number_text rows ++ (space ++ (number_text changes ++ newline)))))

-- `E`, number and place
abbrev pub refusal_line : Refusal → List ℕ
refusal_line r = 69 ∷ 32 ∷ (number_text r.number ++ (space ++ (number_text r.place ++ newline)))
