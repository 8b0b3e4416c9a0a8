-- Two saved interviews that were taken up hold the same list (`same-list-taken-up`); and every one that was taken up has demand 3, its trace
-- and what is said of every two moments of its log (`held`).
use Rattle.std.specs.Prelude.{◌≡◌, refl, Bool, true, false, List, ℕ, Ok, Err}
use Rattle.std.proofs.Common.{sym, ◌∙◌, subst, inl, inr, true≢false}
use Rattle.session.specs.declared.Session.{Session}
use Rattle.session.specs.declared.Refusal.{Refusal}
use Rattle.session.specs.Choice.{chosen}
use Rattle.machine.specs.Machine.{opened, rejected}
use Rattle.machine.specs.Calls.{state_of, opening_from}
use Rattle.answer_words.specs.declared.Answer.{Answer as Coded}
use Rattle.answer_words.specs.Codes.{coded}
use Rattle.call_logs.specs.Replay.{LogWords, Replayed, AllMade, ReplaySays}
use Rattle.saved_interview.proofs.Demand3Whole.Theorem.{demand-3-whole, same-list-whole}
use Rattle.saved_interview.proofs.Trace.Proof.{trace}
use Rattle.saved_interview.proofs.ShownResultsWhole.Theorem.{shown-in-log}
use Rattle.saved_interview.specs.TakingUp.{TurnAfter, TakenUp, interview, Held, Outcome, SameListTakenUp}

pub held : (n used : ℕ) (background calls : List ℕ) (before : Session) (words : LogWords) (x : Coded) (after : Session) (words' : LogWords)
    → TakenUp n used background calls before words x after words' → Held n used background calls before words x after words'
held n used background calls before words x after words' t =
    let i = interview n used background calls before words x after words' t in
    record { taken_up = t; demand_3 = demand-3-whole i; trace = trace i; shown = shown-in-log i }

pub same-list-taken-up : (n : ℕ) (background : List ℕ) → SameListTakenUp n background
same-list-taken-up n background used used' calls calls' before before' words words' x x' after after' left left' h h' f f' t r r' =
    same-list-whole n background (interview n used background calls before words x after left h.taken_up)
    (interview n used' background calls' before' words' x' after' left' h'.taken_up) f f' t r r'

-- every call was made on the opened session, so that this is what taking up says
pub made-outcome : (n used : ℕ) (background calls : List ℕ) (before : Session) (words : LogWords) (x : Coded) (after : Session) (words' : LogWords) (start : Session)
    → opened (state_of start words.rows words.list background) ≡ opening_from n used words.rows words.list background
    → AllMade background calls start words after words' → x ≡ coded 103 0 0
    → Outcome n used background calls before words x after words'
made-outcome n used background calls before words x after words' start opens made answer =
    inr (inr (held n used background calls before words x after words' (record { start = start; opens = opens; made = made; answer = answer })))

-- a refused opening leaves the record and the words as they were
pub refused-outcome : (n used : ℕ) (background calls : List ℕ) (before : Session) (words : LogWords) (x : Coded) (changed : Bool) (r : Refusal)
    → rejected r ≡ opening_from n used words.rows words.list background → x ≡ coded r.number r.place 0
    → Outcome n used background calls before words x before words × (changed ≡ false → before ≡ before)
refused-outcome n used background calls before words x changed r rejects answer =
    (inl (record { refusal = r; rejects = sym rejects; answer = answer; same_record = refl; same_words = refl }), λ e. refl)

-- with the opening and the turn after it, what a replay says of its log is what taking up says
pub replay-outcome : (n used : ℕ) (background calls : List ℕ) (before : Session) (words : LogWords) (x : Coded) (left : Session) (words' : LogWords) (changed : Bool)
    (start : Session) (log : Replayed) → opened (state_of start words.rows words.list background) ≡ opening_from n used words.rows words.list background
    → ReplaySays background calls start words words' log → TurnAfter before log x left changed
    → Outcome n used background calls before words x left words' × (changed ≡ false → left ≡ before)
replay-outcome n used background calls before words x left words' changed start (Ok after) opens made (answer, (is, change)) = (
  made-outcome n used background calls before words x left words' start opens (subst (λ z. AllMade background calls start words z words') (sym is) made) answer,
  λ e. absurd (true≢false (sym change ∙ e)),
)
replay-outcome n used background calls before words x left words' changed start (Err e) opens none (answer, (is, change)) = (
  inr (inl (record { short = none.short; answer = answer; same_record = is; same_words = none.same_words })),
  λ e. is,
)

-- ---- the record after it

-- what is said of the record after it holds of one that is stored only where it changed
pub outcome-kept : (n used : ℕ) (background calls : List ℕ) (before : Session) (words : LogWords) (x : Coded) (after : Session) (words' : LogWords) (changed : Bool)
    → Outcome n used background calls before words x after words' × (changed ≡ false → after ≡ before)
    → Outcome n used background calls before words x (chosen changed after before) words'
outcome-kept n used background calls before words x after words' true h = h.0
outcome-kept n used background calls before words x after words' false h =
    subst (λ z. Outcome n used background calls before words x z words') (h.1 refl) h.0
