-- What a test is of the plain machine: where its checks pass, the row refutes; else their refusal.
use Rattle.std.specs.Prelude.{◌≡◌, refl, List, ℕ, Ok, Err}
use Rattle.session.specs.declared.Session.{Session}
use Rattle.session.specs.declared.Refusal.{Refusal}
use Rattle.context.specs.Objects.{Object}
use Rattle.machine.specs.Checks.{State}
use Rattle.machine.specs.Machine.{Answer, test, refuting, refused, performed}
use Rattle.machine.proofs.Machine.Laws.{perform-accepted, perform-refused}
use Rattle.machine.specs.Calls.{state_of, MadeFrom}
use Rattle.machine.proofs.Calls.Laws.{performs}
use Rattle.standing.specs.declared.Question.{Question}
use Rattle.reply_checks.specs.Outcomes.{asking}
use Rattle.reply_checks.proofs.Outcomes.Laws.{asking-question, asking-refused}

module _ (s : Session) (rows list background : List ℕ) (o : Object) where
  abbrev before : State
  before = state_of s rows list background

  pub test_refused : {r : Refusal} → Err r ≡ asking before (test o) → MadeFrom (λ (a : Answer). a) (test o) s rows list background (refused r) s rows list
  test_refused e = performs (perform-refused before (test o) _ (asking-refused before (test o) _ e)) refl refl

  pub test_passed : {q : Question} → Ok q ≡ asking before (test o) → MadeFrom (λ (a : Answer). a) (test o) s rows list background refuting s rows list
  unfolding performed
  test_passed e = performs (perform-accepted before (test o) (asking-question before (test o) _ e).1) refl refl
