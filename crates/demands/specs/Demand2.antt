-- Demand 2, contradiction: in a state that passes checks 1 to 7, a reply or a filing that passes the checks before 11 is refused with 11
-- if and only if no complete table over M agrees with all rows in use, all rules in force and the reply, or the offered row; a filling, if and
-- only if none agrees with all rows in use, the one of its number filled, and all rules in force.
-- Said for a yes, a no, a filing and a filling, for every state, row number and offered row; `Theorem` proves all four.
use Rattle.std.specs.Prelude.{◌≡◌, ◌↔◌, List, [], ◌++◌, ℕ, take}
use Rattle.std.proofs.Math.Option.{none}
use Rattle.theory.specs.Lists.{All}
use Rattle.context.specs.Objects.{Object}
use Rattle.context.specs.Tables.{Table, AgreesObject, AgreesImplication}
use Rattle.machine.specs.Checks.{State, first_failing, session_checks, yes_checks, test_checks, filing_checks, fill_checks, force, question}
use Rattle.machine.specs.Machine.{Call, accept, reject, file, fill, refused, after_fill, perform}
use Rattle.demands.specs.Replies.{Reply, agreed, offered, AgreesReply}

-- the call is refused with 11, at some place
abbrev pub Refused11 : State → Call → Type 0
Refused11 s c = (p : ℕ) × ((perform s c).answer ≡ refused (record { number = 11; place = p }))

-- t is a complete table that agrees with all rows in use and all rules in force
pub record AgreesAll (s : State) (t : List Object) : Type 0 where
  pub complete : Table s.n t
  pub rows : All (AgreesObject t) s.rows
  pub rules : All (AgreesImplication t) (force s)

-- t agrees with the reply too
pub record Agrees (s : State) (r : Reply) (t : List Object) : Type 0 where
  pub all : AgreesAll s t
  pub reply : AgreesReply t r

-- no complete table agrees
abbrev pub Contradictory : State → Reply → Type 0
Contradictory s r = (t : List Object) → Agrees s r t → ⊥

-- no complete table agrees with all rows, row k filled with the marks of m, and all rules
abbrev pub ContradictoryFilled : State → ℕ → Object → Type 0
ContradictoryFilled s k m = (t : List Object) → AgreesAll (after_fill s k m) t → ⊥

-- the checks before 11: 1 to 7, then 8 of a yes, those of the test, 8, 9, 10, of a no, 9 of a filing, and 32, 9, 33 of a filling
abbrev pub YesUpTo11 : State → Type 0
YesUpTo11 s = first_failing (session_checks s [] ++ take 1 (yes_checks s)) ≡ none

abbrev pub NoUpTo11 : State → Object → Type 0
NoUpTo11 s o = first_failing (session_checks s [] ++ test_checks s o) ≡ none

abbrev pub FilingUpTo11 : State → Object → Type 0
FilingUpTo11 s o = first_failing (session_checks s [] ++ take 1 (filing_checks s o)) ≡ none

abbrev pub FillUpTo11 : State → ℕ → Object → Type 0
FillUpTo11 s k m = first_failing (session_checks s [] ++ take 3 (fill_checks s k m)) ≡ none

pub record Demand2 : Type 0 where
  pub yes_call : (s : State) → YesUpTo11 s → Refused11 s accept ↔ Contradictory s (agreed (question s))
  pub no_call : (s : State) (o : Object) → NoUpTo11 s o → Refused11 s (reject o) ↔ Contradictory s (offered o)
  pub filing : (s : State) (o : Object) → FilingUpTo11 s o → Refused11 s (file o) ↔ Contradictory s (offered o)
  pub filling : (s : State) (k : ℕ) (m : Object) → FillUpTo11 s k m → Refused11 s (fill k m) ↔ ContradictoryFilled s k m
