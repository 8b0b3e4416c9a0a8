-- The lines of the program `nearly`, computed (`cases`), and put together, premise after premise (`lines-one`, `lines-append`, `lines-first`,
-- `lines_none`). Each line has two bytes for each attribute and four more (`line-size`), so how long the lines are is known by how many
-- premises there are (`lines-size`). The premises as the code makes them, in a word (`one-raised`, `pair-raised`).
use Rattle.std.specs.Prelude.{◌≡◌, ℕ, ◌+◌, ◌*◌, ◌^◌, ◌%◌, ◌<◌, length}
use Rattle.std.proofs.Math.Path.{refl, ap}
use Rattle.std.proofs.Common.{◌∙◌, arith, mod-eq_of_lt, suc-mul, length-append, pow_mono}
use mathlib.Core.List.{List, [], ◌∷◌, ◌++◌, append-nil, append_assoc}
use Rattle.std.proofs.Math.Pow.{pow-lt}
use Rattle.theory.specs.Implications.{Implication}
use Rattle.attribute_set.specs.Sets.{inside, without}
use Rattle.attribute_set.specs.Passing.{passing}
use Rattle.attribute_set.specs.Lectic.{raise}
use Rattle.attribute_set.proofs.Lectic.Laws.{raise-lt, single-raise}
use Rattle.implication.specs.Closure.{implication}
use Rattle.context.specs.Objects.{Object}
use Rattle.text.specs.Text.{set_text}
use Rattle.output_lines.specs.Lines.{rule_text}
use Rattle.output_lines.proofs.Lines.Laws.{rule-length}
use Rattle.nearly_always.specs.Nearly.{having, exceeds, nearly_always}
use Rattle.nearly_always.proofs.Nearly.Cases.{table}
use Rattle.nearly_lines.specs.Lines.{nearly_line, nearly_lines}

record Cases : Type 0 where
  -- `N ..X .X.`
  one : nearly_line 3 (implication 4 2) ≡ 78 ∷ 32 ∷ 46 ∷ 46 ∷ 88 ∷ 32 ∷ 46 ∷ 88 ∷ 46 ∷ 10 ∷ []
  -- `N ..X .X.`, `N.X. ...`, of document 01's table
  two : nearly_lines 3 80 table (4 ∷ 2 ∷ []) ≡
      78 ∷ 32 ∷ 46 ∷ 46 ∷ 88 ∷ 32 ∷ 46 ∷ 88 ∷ 46 ∷ 10 ∷ 78 ∷ 32 ∷ 46 ∷ 88 ∷ 46 ∷ 32 ∷ 46 ∷ 46 ∷ 46 ∷ 10 ∷ []

cases : Cases
unfolding nearly_lines nearly_always passing exceeds having inside without set_text
cases = record { one = refl; two = refl }

-- ---- premise after premise

module _ (n percent : ℕ) (os : List Object) where
  -- the line of one premise, with the set that is listed
  pub lines-one : (s t : ℕ) → t ≡ nearly_always n percent os s → nearly_lines n percent os (s ∷ []) ≡ nearly_line n (implication s t)
  unfolding nearly_lines
  lines-one s t e = rw e (append-nil (nearly_line n (implication s (nearly_always n percent os s))))

  pub lines-append : (ss ts : List ℕ) → nearly_lines n percent os ss ++ nearly_lines n percent os ts ≡ nearly_lines n percent os (ss ++ ts)
  unfolding nearly_lines
  lines-append [] ts = refl
  lines-append (s ∷ ss) ts =
      let line = nearly_line n (implication s (nearly_always n percent os s)) in
      append_assoc line (nearly_lines n percent os ss) (nearly_lines n percent os ts) ∙ ap (λ l. line ++ l) (lines-append ss ts)

  -- the line of the first premise, then those of the rest
  pub lines-first : (s : ℕ) (ss : List ℕ) → nearly_lines n percent os (s ∷ []) ++ nearly_lines n percent os ss ≡ nearly_lines n percent os (s ∷ ss)
  lines-first s ss = lines-append (s ∷ []) ss

  -- no premise is left
  pub lines_none : (ss : List ℕ) → ss ≡ [] → nearly_lines n percent os ss ≡ []
  unfolding nearly_lines
  lines_none ss e = rw e

-- ---- how long the lines are

pub line-size : (n : ℕ) (r : Implication ℕ) → length (nearly_line n r) ≡ n * 2 + 4
line-size n r = rw (length-append (rule_text n r), rule-length n r) (omega arith)

pub lines-size : (n percent : ℕ) (os : List Object) (ss : List ℕ) → length (nearly_lines n percent os ss) ≡ length ss * (n * 2 + 4)
unfolding nearly_lines
lines-size n percent os [] = omega arith
lines-size n percent os (s ∷ ss) =
    let line = nearly_line n (implication s (nearly_always n percent os s)) in
    length-append line (nearly_lines n percent os ss)
    ∙ omega (arith, line-size n (implication s (nearly_always n percent os s)), lines-size n percent os ss, suc-mul (length ss) (n * 2 + 4))

-- ---- the premises in a word

-- {i}
pub one-raised : (i : ℕ) → i < 64 → raise 0 i % 2 ^ 64 ≡ 2 ^ i
one-raised i h = ap (λ (k : ℕ). k % 2 ^ 64) (single-raise i) ∙ mod-eq_of_lt (pow-lt h)

-- {i, j}
pub pair-raised : (i j : ℕ) → i < j → j < 64 → raise (2 ^ i) j % 2 ^ 64 ≡ 2 ^ i + 2 ^ j
pair-raised i j h l = mod-eq_of_lt (omega (arith, raise-lt (2 ^ i) j, pow_mono l)) ∙ omega (arith, mod-eq_of_lt (pow-lt h))
