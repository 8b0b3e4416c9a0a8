-- The two read-only calls that run never say both of one rule (02, request 8/13): for every record and all lent words, damaged ones too, `follows`
-- does not answer `true` where `refuted` names a row. `following` and `refuting` are their answers, which by their contracts are the machine's.
use Rattle.std.specs.Prelude.{◌≡◌, Bool, true, Option, Some, Result, Ok, List, ℕ}
use Rattle.std.proofs.Common.{sym, ap, ◌∙◌}
use Rattle.theory.specs.Implications.{Implication}
use Rattle.implication.specs.Closure.{implication}
use Rattle.machine.specs.Checks.{State}
use Rattle.machine.specs.Machine.{follow, refute, perform}
use Rattle.demands.proofs.ShownResults.Laws.{never_said_both}
use Rattle.machine.specs.Calls.{state_of}
use Rattle.session.specs.declared.Session.{Session}
use Rattle.session.specs.declared.Refusal.{Refusal}
use Rattle.session_queries.specs.Answers.{following_answer, refuting_answer}

module _ (session : Session) (rows list background : List ℕ) (premise conclusion : ℕ) where
  abbrev given : State
  given = state_of session rows list background

  abbrev rule : Implication ℕ
  rule = implication premise conclusion

  pub never-both-answered : (following : Result Bool Refusal) (refuting : Result (Option ℕ) Refusal) → following_answer following ≡ (perform given (follow rule)).answer
      → refuting_answer refuting ≡ (perform given (refute rule)).answer → following ≡ Ok true → (row : ℕ) → refuting ≡ Ok (Some row) → ⊥
  never-both-answered following refuting e f a row b =
      never_said_both given rule row (sym e ∙ ap following_answer a) (sym f ∙ ap refuting_answer b)
