-- When the program writes the same for two table files (02, request 1/13, and 01, "The program"): the same bytes, or an E line for each,
-- with the same number and the offsets of the same line.
use Rattle.std.specs.Prelude.{◌≡◌, ◌⊎◌, List, ℕ}
use Rattle.session.specs.declared.Refusal.{Refusal}
use Rattle.closing_lines.specs.Closing.{refusal_line}
use Rattle.same_lines.specs.Files.{SameRefusal}

-- what is written for the files f and g
abbrev pub SameWritten : List ℕ → List ℕ → List ℕ → List ℕ → Type 0
SameWritten f g out out' =
    (out ≡ out') ⊎ ((r : Refusal) × (r' : Refusal) × SameRefusal f g r r' × (out ≡ refusal_line r) × (out' ≡ refusal_line r'))
