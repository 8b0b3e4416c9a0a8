-- Results shown before the end (02, request 8/13, "Showing results before the end"): what may be concluded from the rules and the rows of an
-- interview that is still running. For every opening that is accepted, every list of calls and every list of calls after it, with any arguments:
-- steps, replies, tests, filings, fillings and read-only calls, refused ones included. `Theorem` proves all of it. That the calls that run do what this
-- machine does belongs to the calls (`ShownResultsWhole` of saved_interview).
use Rattle.std.specs.Prelude.{◌≡◌, ◌⊎◌, true, List, ◌∷◌, ◌++◌, ℕ, ◌≤◌, ◌<◌, length}
use Rattle.theory.specs.Lists.{All}
use Rattle.theory.specs.Implications.{Implication}
use Rattle.implication.specs.Closure.{follows}
use Rattle.context.specs.Objects.{Object, refutes, first_refuting}
use Rattle.context.specs.Filling.{object_at}
use Rattle.machine.specs.Checks.{Lent, State, force}
use Rattle.machine.specs.Machine.{Call, step, accept, reject, follow, refute, test, file, fill, asked, taken, followed, refuted, perform, run, opening, opened}
use Rattle.demands.specs.Demand3.{Finished, OverM, SameConsequences}

-- r follows from the rules in force
abbrev pub Follows : State → Implication ℕ → Type 0
Follows s r = follows (force s) r ≡ true

-- row k is in use and refutes r, by what it has and lacks under the rules in force (02, request 5/13)
pub record RefutedBy (s : State) (r : Implication ℕ) (k : ℕ) : Type 0 where
  pub used : k < length s.rows
  pub by_row : refutes (force s) (object_at s.rows k) r ≡ true

-- some row refutes r
abbrev pub Refuted : State → Implication ℕ → Type 0
Refuted s r = (k : ℕ) × RefutedBy s r k

-- r is settled: it follows, or a row refutes it; else it is open
abbrev pub Settled : State → Implication ℕ → Type 0
Settled s r = Follows s r ⊎ Refuted s r

-- the first row that refutes r; the number of rows where none does
abbrev pub first_row : State → Implication ℕ → ℕ
first_row s r = first_refuting (force s) s.rows r

-- a step asks q
abbrev pub Asks : State → Implication ℕ → Type 0
Asks s q = (perform s step).answer ≡ asked q

-- what the two read-only calls say of r: that it follows, that row k is the first to refute it
abbrev pub SaysFollows : State → Implication ℕ → Type 0
SaysFollows s r = (perform s (follow r)).answer ≡ followed true

abbrev pub SaysRefuted : State → Implication ℕ → ℕ → Type 0
SaysRefuted s r k = (perform s (refute r)).answer ≡ refuted k

-- ---- the request

-- Everywhere `shown` is the state after a list of calls, in which somebody looks at the results, and `later` the state after any more calls.

-- the request's four sentences
pub record ResultsStay (shown later : State) : Type 0 where
  -- 1. Follows stays: a rule that follows from the rules in force follows after every later call, whether it is over M or not.
  -- So a rule of the list that is shown, and whatever follows from the list, may be acted on before the interview ends.
  pub follows_stays : (r : Implication ℕ) → Follows shown r → Follows later r
  -- 2. Refuted stays: a rule that some row refutes is refuted after every later call, by the same row, and the first row that refutes it is
  -- the same or an earlier one. So a rule that is shown as refuted may be given up, and the row that was named for it goes on refuting it.
  pub refuted_stays : (r : Implication ℕ) → Refuted shown r → Refuted later r
  pub row_stays : (r : Implication ℕ) (k : ℕ) → RefutedBy shown r k → RefutedBy later r k
  pub first_stays : (r : Implication ℕ) → Refuted shown r → first_row later r ≤ first_row shown r
  -- 3. Never both: no rule follows and is refuted. So what is shown of a rule is one of the two, or that it is open.
  pub never_both : (r : Implication ℕ) → Follows shown r → Refuted shown r → ⊥
  -- 4. Shortest at every moment: a list over M that has the same consequences, joined to the background, has at least as many rules; n and
  -- background are the opening's (`same_n`, `same_background` of demand 3). So nobody says in fewer rules what the list that is shown says, and
  -- it need not be shortened before it is passed on.
  pub shortest : (l : List (Implication ℕ)) → All (OverM shown.n) l → SameConsequences shown.n shown.background shown.list l
      → length shown.list ≤ length l

-- the same of what the two read-only calls answer: "follows" is answered again, "refuted" is answered again, at the same row or an earlier one, and
-- of one rule never both are answered, in one state or in two. So no "follows" and no "refuted" that was shown is ever denied.
pub record AnswersStay (shown later : State) : Type 0 where
  pub follows_again : (r : Implication ℕ) → SaysFollows shown r → SaysFollows later r
  pub refuted_again : (r : Implication ℕ) (k : ℕ) → SaysRefuted shown r k → (j : ℕ) × (j ≤ k) × SaysRefuted later r j
  pub never_said_both : (r : Implication ℕ) (k : ℕ) → SaysFollows shown r → SaysRefuted shown r k → ⊥
  pub not_refuted_later : (r : Implication ℕ) (k : ℕ) → SaysFollows shown r → SaysRefuted later r k → ⊥
  pub not_followed_later : (r : Implication ℕ) (k : ℕ) → SaysRefuted shown r k → SaysFollows later r → ⊥

-- what follows from them of the questions
pub record QuestionsStay (shown later : State) : Type 0 where
  -- What follows or is refuted is not asked, now or later. So the expert is not asked about what could be read off the results.
  pub not_asked : (q : Implication ℕ) → Settled shown q → Asks later q → ⊥
  -- Once finished, an interview stays finished, with the same list: no later filing or filling brings a question back. So the list that is shown
  -- then is the last one.
  pub stays_finished : Finished shown → Finished later
  pub list_stays : Finished shown → later.list ≡ shown.list
  pub no_question_back : Finished shown → (q : Implication ℕ) → Asks later q → ⊥
  -- And nothing over M is open then (point 3 of demand 3).
  pub nothing_open : Finished shown → (r : Implication ℕ) → OverM shown.n r → Settled shown r

pub record ShownResults (shown later : State) : Type 0 where
  pub results : ResultsStay shown later
  pub answers : AnswersStay shown later
  pub questions : QuestionsStay shown later

-- ---- a question that was answered

-- the calls that answer the question that stands: a yes, a no
abbrev pub AnswersQuestion : Call → Type 0
AnswersQuestion step = ⊥
AnswersQuestion accept = Unit {0}
AnswersQuestion (reject o) = Unit {0}
AnswersQuestion (follow r) = ⊥
AnswersQuestion (refute r) = ⊥
AnswersQuestion (test o) = ⊥
AnswersQuestion (file o) = ⊥
AnswersQuestion (fill k m) = ⊥

-- where c answered the question q of `shown` and was accepted, q is settled then. So every accepted answer decides its question.
abbrev pub Settles : State → Call → Type 0
Settles shown c = AnswersQuestion c → (q : Implication ℕ) → Asks shown q → (perform shown c).answer ≡ taken → Settled (perform shown c).after q

-- and it is not asked in `later`, after c and any more calls. So nobody is asked again what was answered.
abbrev pub AnsweredOnce : State → Call → State → Type 0
AnsweredOnce shown c later = AnswersQuestion c → (q : Implication ℕ) → Asks shown q → (perform shown c).answer ≡ taken → Asks later q → ⊥

-- ---- for all openings and calls

pub record Request8 : Type 0 where
  pub every_moment : (n : ℕ) (lent : Lent) (background : List (Implication ℕ)) (rows : List Object) (start : State)
      → opening n lent background rows ≡ opened start → (calls more : List Call) → ShownResults (run start calls) (run start (calls ++ more))
  pub settles : (n : ℕ) (lent : Lent) (background : List (Implication ℕ)) (rows : List Object) (start : State)
      → opening n lent background rows ≡ opened start → (calls : List Call) (c : Call) → Settles (run start calls) c
  pub answered_once : (n : ℕ) (lent : Lent) (background : List (Implication ℕ)) (rows : List Object) (start : State)
      → opening n lent background rows ≡ opened start → (calls more : List Call) (c : Call) → AnsweredOnce (run start calls) c (run start (calls ++ (c ∷ more)))
