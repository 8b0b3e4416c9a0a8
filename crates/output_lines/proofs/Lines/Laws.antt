-- The lines of a list, one rule after the other; how many bytes a rule has (`rule-length`).
use Rattle.std.specs.Prelude.{◌≡◌, List, [], ◌∷◌, ◌++◌, ℕ, suc, ◌+◌, length}
use Rattle.std.proofs.Common.{ap, ◌∙◌, append_assoc, length-append}
use Rattle.theory.specs.Implications.{Implication}
use Rattle.text.specs.Text.{set_text, newline}
use Rattle.text.proofs.Text.Laws.{set-length}
use Rattle.output_lines.specs.Lines.{rule_text, list_lines}

-- the line of the first rule, then those of the rest
pub lines-first : (n : ℕ) (r : Implication ℕ) (rs : List (Implication ℕ)) → list_lines n (r ∷ []) ++ list_lines n rs ≡ list_lines n (r ∷ rs)
unfolding list_lines
lines-first n r rs = ap (λ bs. 76 ∷ 32 ∷ bs) (append_assoc (rule_text n r) newline (list_lines n rs))

-- no line is left
pub lines_none : (n : ℕ) (rs : List (Implication ℕ)) → rs ≡ [] → list_lines n rs ≡ []
unfolding list_lines
lines_none n rs e = rw e

pub rule-length : (n : ℕ) (r : Implication ℕ) → length (rule_text n r) ≡ n + suc n
rule-length n r = length-append (set_text n r.premise) _ ∙ rw (set-length n r.premise, set-length n r.conclusion)
