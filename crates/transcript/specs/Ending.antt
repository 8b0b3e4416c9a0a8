-- How an interview of a complete table ends (01, "The program", with demand 3 read over the table). `Core/Program` proves of the
-- program that it ends in `Concluded` or in `ListFull`, and `Core/Conclusion` of any lent places in `Concluded` or in `Full`.
use Rattle.std.specs.Prelude.{◌≡◌, ◌⊎◌, ◌↔◌, true, ℕ, ◌≤◌, length}
use mathlib.Core.List.{List, ◌++◌, Memᴰ}
use Rattle.theory.specs.Lists.{All}
use Rattle.theory.specs.Implications.{Implication}
use Rattle.implication.specs.Closure.{follows}
use Rattle.context.specs.Objects.{Object}
use Rattle.context.specs.Tables.{AgreesImplication}
use Rattle.demands.specs.Demand3.{OverM}
use Rattle.output_lines.specs.Lines.{yes_line, no_line, list_lines}
use Rattle.closing_lines.specs.Closing.{end_line, refusal_line}
use Rattle.transcript.specs.Core.{no_place_refusal}

-- just the implications that hold in the table follow from the list
abbrev pub Decides : ℕ → List Object → List (Implication ℕ) → Type 0
Decides n table l = (r : Implication ℕ) → OverM n r → (follows l r ≡ true) ↔ AgreesImplication table r

-- the output ends in the L lines and the END line of a list that is decided and shortest for the table
pub record Concluded (n : ℕ) (table : List Object) (text : List ℕ) : Type 0 where
  pub before : List ℕ
  pub list : List (Implication ℕ)
  pub rows : List Object
  pub changes : ℕ
  pub whole : text ≡ before ++ (list_lines n list ++ end_line (length list) (length rows) changes)
  pub filed : All (λ o. Memᴰ o table) rows
  pub over : All (OverM n) list
  pub decides : Decides n table list
  pub shortest : (l : List (Implication ℕ)) → All (OverM n) l → Decides n table l → length list ≤ length l

-- the output ends in the refusal of a reply for which there is no place, its Q line before it
pub record Full (n : ℕ) (text : List ℕ) : Type 0 where
  pub before : List ℕ
  pub question : Implication ℕ
  pub reply : List ℕ
  pub replies : (reply ≡ yes_line n question) ⊎ ((row : ℕ) × (reply ≡ no_line n question row))
  pub whole : text ≡ before ++ (reply ++ refusal_line no_place_refusal)

-- the output ends in the refusal of a yes for which there is no place, its Q line before it
pub record ListFull (n : ℕ) (text : List ℕ) : Type 0 where
  pub before : List ℕ
  pub question : Implication ℕ
  pub whole : text ≡ before ++ (yes_line n question ++ refusal_line no_place_refusal)
