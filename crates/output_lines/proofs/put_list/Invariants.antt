-- The page so far, with the lines of the rules not yet written, makes the page with all of them.
use Rattle.std.specs.Prelude.{◌≡◌, List, ℕ, get_or, map, take}
use Rattle.theory.specs.Implications.{Implication}
use Rattle.implication.specs.Closure.{implication}
use Rattle.text.specs.Page.{page, text}
use Rattle.output_lines.specs.Lines.{list_lines, whole_rules}
use Rattle.output_lines.proofs.put_list.Given as goal

-- the rules of chunks of two words
abbrev pub rules_of : List (List ℕ) → List (Implication ℕ)
rules_of = map (λ (c : List ℕ). implication (get_or c 0 0) (get_or c 1 0))

abbrev pub invariant-loop-premise : goal.invariant-loop-premise
invariant-loop-premise l =
    text (page l.out l.to) (list_lines l.fn.n (rules_of (take l.premise-iterator.n l.premise-iterator.iter.rest.now)))
    ≡ text (page l.fn.out l.fn.at) (list_lines l.fn.n (whole_rules l.fn.count l.fn.list))
