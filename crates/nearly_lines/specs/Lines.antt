-- The lines of the program `nearly`, as bytes (02, request 3/13): for each premise its line, closed by a line feed.
use Rattle.std.specs.Prelude.{List, [], ◌∷◌, ◌++◌, ℕ, length}
use Rattle.theory.specs.Implications.{Implication}
use Rattle.implication.specs.Closure.{implication}
use Rattle.context.specs.Objects.{Object, objects_of}
use Rattle.text.specs.Page.{Buffer, Puts}
use Rattle.text.specs.Text.{newline}
use Rattle.output_lines.specs.Lines.{rule_text}
use Rattle.nearly_always.specs.Nearly.{nearly_always, InRange}
use Rattle.short_premises.specs.Premises.{premises}

-- `N`, premise, listed attributes
abbrev pub nearly_line : ℕ → Implication ℕ → List ℕ
nearly_line n r = 78 ∷ 32 ∷ (rule_text n r ++ newline)

-- the line of each premise, in their order, with the attributes that nearly always come with it
unfoldable pub nearly_lines : ℕ → ℕ → List Object → List ℕ → List ℕ
nearly_lines n percent os [] = []
nearly_lines n percent os (s ∷ ss) = nearly_line n (implication s (nearly_always n percent os s)) ++ nearly_lines n percent os ss

-- what is written for any numbers: the lines of all premises of one or two attributes where they are in range, else nothing
pub record PutsAll (out : Buffer) (at n used : ℕ) (words : List ℕ) (percent end : ℕ) : Type 0 where
  pub in_range : InRange n used (length words) percent → Puts out at end (nearly_lines n percent (objects_of used words) (premises n))
  pub out_of_range : (InRange n used (length words) percent → ⊥) → Puts out at end []
