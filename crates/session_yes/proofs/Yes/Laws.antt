-- Where the checks of a yes pass, there is a place for its rule (`room`), and to write the question there and take the next closed set is the yes
-- of the plain machine (`accepted`); what they refuse, it refuses (`not_accepted`).
use Rattle.std.specs.Prelude.{◌≡◌, refl, true, List, ℕ, ◌+◌, ◌*◌, ◌<◌, min, length, set, Ok, Err}
use Rattle.std.proofs.Common.{sym, ap, ◌∙◌, arith}
use Rattle.std.proofs.Math.Option.{none}
use Rattle.session.specs.declared.Session.{Session}
use Rattle.session.specs.declared.Refusal.{Refusal}
use Rattle.implication.proofs.Pairs.Laws.{length_pairs}
use Rattle.implication.specs.Closure.{implication, in_force}
use Rattle.next_set.specs.Next.{next}
use Rattle.machine.specs.Checks.{State, first_failing}
use Rattle.machine.specs.Machine.{Answer, accept, taken, turn, refused, after_yes, checks_of, performed, perform}
use Rattle.machine.proofs.Machine.Laws.{perform-accepted, perform-refused}
use Rattle.machine.specs.Calls.{state_of, TurnedFrom}
use Rattle.machine.proofs.Calls.Laws.{performs, turns}
use Rattle.standing.specs.declared.Question.{Question}
use Rattle.standing.specs.Standings.{question_of}
use Rattle.reply_checks.specs.Outcomes.{asking}
use Rattle.reply_checks.proofs.Outcomes.Laws.{asking-question, asking-refused}
use Rattle.session_replies.proofs.Answers.Laws.{yes-small, yes-leaves, written}

pub not_accepted : (s : State) {r : Refusal} → Err r ≡ asking s accept → perform s accept ≡ turn (refused r) s
not_accepted s e = perform-refused s accept _ (asking-refused s accept _ e)

module _ (x : Session) (rows list background : List ℕ) (q : Question) (asked : Ok q ≡ asking (state_of x rows list background) accept) where
  abbrev before : State
  before = state_of x rows list background

  passed : (q ≡ question_of before) × (first_failing (checks_of before accept) ≡ none)
  passed = asking-question before accept q asked

  pub room : x.rules * 2 + 1 < length list
  room = omega (arith, (yes-small before passed.1).1, length_pairs implication x.rules list)

  turned : perform before accept ≡ turn taken (after_yes before)
  unfolding performed
  turned = perform-accepted before accept passed.1

  pub accepted : {p : ℕ} → let words = set (set list (x.rules * 2) q.premise) (x.rules * 2 + 1) q.conclusion in
      p ≡ next (in_force background words (x.rules + 1)) (min x.n 64) x.current
      → TurnedFrom (λ (a : Answer). a) accept x rows list background taken (record { n = x.n; rows = x.rows; rules = x.rules + 1; current = p }) rows words true
  accepted e =
      let same = ap (λ (y : Question). implication y.premise y.conclusion) passed.0 in
      let holds = yes-leaves x rows list background q.premise q.conclusion (yes-small before passed.1).0 room e same in
      turns (performs (turned ∙ ap (turn taken) (sym holds)) refl (written x.rules (length before.list) list _ _ same (sym (length_pairs implication x.rules list)))) refl
