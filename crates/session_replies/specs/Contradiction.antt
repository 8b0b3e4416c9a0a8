-- Demand 2 for the calls that run. `answer` is what `session_yes::accept`, `session_no::reject`, `session_filing::file_row` or
-- `session_late_marks::fill_row` answers: its contract says that it is the machine's. It is a refusal with 11 just if no complete table agrees
-- with all rows in use, all rules in force and the reply, or the offered row; of a filling, just if none agrees with all rows, the one of its
-- number filled, and all rules.
use Rattle.std.specs.Prelude.{◌≡◌, ◌↔◌, List, ℕ, Result}
use Rattle.std.proofs.Common.{sym, ◌∙◌}
use Rattle.context.specs.Objects.{Object, object}
use Rattle.machine.specs.Checks.{State, question}
use Rattle.machine.specs.Machine.{Call, accept, reject, file, fill, refused, perform}
use Rattle.demands.specs.Replies.{agreed, offered}
use Rattle.demands.specs.Demand2.{Refused11, Contradictory, ContradictoryFilled, YesUpTo11, NoUpTo11, FilingUpTo11, FillUpTo11}
use Rattle.demands.proofs.Demand2.Theorem.{demand-2}
use Rattle.machine.specs.Calls.{state_of}
use Rattle.session_replies.specs.Answers.{reply_answer}
use Rattle.session.specs.declared.Session.{Session}
use Rattle.session.specs.declared.Refusal.{Refusal}

-- the answer is a refusal with 11, at some place
abbrev pub Says11 : Result (Unit {0}) Refusal → Type 0
Says11 answer = (p : ℕ) × (reply_answer answer ≡ refused (record { number = 11; place = p }))

module _ (session : Session) (rows list background : List ℕ) (answer : Result (Unit {0}) Refusal) where
  abbrev before : State
  before = state_of session rows list background

  -- what the machine's answer says, the call's answer says
  by_answer : (c : Call) {X : Type 0} → reply_answer answer ≡ (perform before c).answer → Refused11 before c ↔ X → Says11 answer ↔ X
  by_answer c e i = (λ (p, h). i.0 (p, sym e ∙ h), λ h. let t = i.1 h in (t.0, e ∙ t.1))

  pub accept-contradiction : reply_answer answer ≡ (perform before accept).answer → YesUpTo11 before
      → Says11 answer ↔ Contradictory before (agreed (question before))
  accept-contradiction e up = by_answer accept e (demand-2.yes_call before up)

  module _ (yes_marks no_marks : ℕ) where
    abbrev row : Object
    row = object yes_marks no_marks

    pub reject-contradiction : reply_answer answer ≡ (perform before (reject row)).answer → NoUpTo11 before row
        → Says11 answer ↔ Contradictory before (offered row)
    reject-contradiction e up = by_answer (reject row) e (demand-2.no_call before row up)

    pub filing-contradiction : reply_answer answer ≡ (perform before (file row)).answer → FilingUpTo11 before row
        → Says11 answer ↔ Contradictory before (offered row)
    filing-contradiction e up = by_answer (file row) e (demand-2.filing before row up)

    -- of a filling of row k
    pub filling-contradiction : (k : ℕ) → reply_answer answer ≡ (perform before (fill k row)).answer → FillUpTo11 before k row
        → Says11 answer ↔ ContradictoryFilled before k row
    filling-contradiction k e up = by_answer (fill k row) e (demand-2.filling before k row up)
