-- The plain machine of document 01 ("The interview"): the calls, their answers, what each does, and runs of calls.
-- One function gives a call's answer and the state after it; a refusal leaves the state as it is.
use Rattle.std.specs.Prelude.{Bool, true, false, List, [], ◌∷◌, ◌++◌, ℕ, length, ltb}
use Rattle.std.proofs.Math.Option.{none, some}
use Rattle.theory.specs.Implications.{Implication}
use Rattle.implication.specs.Closure.{closure, follows}
use Rattle.next_set.specs.Next.{next}
use Rattle.context.specs.Objects.{Object, first_refuting}
use Rattle.context.specs.Filling.{filled_at}
use Rattle.session.specs.declared.Refusal.{Refusal}
use Rattle.machine.specs.Checks.{Lent, State, Check, first_failing, session_checks, yes_checks, test_checks, filing_checks, fill_checks, no_checks, force, whole, tight, open-question, standing, question}

-- the calls of a session, with any arguments
pub data Call : Type 0 where
  step : Call
  -- the replies to the standing question (01: yes; no, with an offered row)
  accept : Call
  reject : Object → Call
  -- the read-only calls: whether an implication follows, whether a row refutes it
  follow : Implication ℕ → Call
  refute : Implication ℕ → Call
  -- a row offered to the standing question, to be told whether it refutes it, and a row offered at any time, to be the next row (02, request
  -- 6/13: the test and the filing)
  test : Object → Call
  file : Object → Call
  -- marks offered at any time, to be added to the row of this number (02, request 7/13: the filling)
  fill : ℕ → Object → Call

pub data Answer : Type 0 where
  -- of a step
  finished : Answer
  moved : Answer
  asked : Implication ℕ → Answer
  -- of a reply, of a filing and of a filling
  taken : Answer
  -- of the read-only calls: whether it follows; the first row that refutes it, or that none does
  followed : Bool → Answer
  refuted : ℕ → Answer
  unrefuted : Answer
  -- of a test: the offered row refutes the standing question
  refuting : Answer
  -- of any call: the number and place of 01's list
  refused : Refusal → Answer

-- a call's answer, and the state after it
pub record Turn : Type 0 where
  pub answer : Answer
  pub after : State

abbrev pub turn : Answer → State → Turn
turn a s = record { answer = a; after = s }

-- ---- states

abbrev pub move_to : State → ℕ → State
move_to s p = record { n = s.n; lent = s.lent; background = s.background; rows = s.rows; list = s.list; current = p }

-- a move: the next set under the implications in force
abbrev pub after_move : State → State
after_move s = move_to s (next (force s) s.n s.current)

-- an implication more in the list, and the next set under the implications then in force
abbrev pub agreeing : State → Implication ℕ → State
agreeing s q = record {
  n = s.n;
  lent = s.lent;
  background = s.background;
  rows = s.rows;
  list = s.list ++ (q ∷ []);
  current = next (s.background ++ (s.list ++ (q ∷ []))) s.n s.current;
}

-- a yes: the question in the list
abbrev pub after_yes : State → State
after_yes s = agreeing s (question s)

-- a filing, and so a no: one row more
abbrev pub after_filing : State → Object → State
after_filing s o = record { n = s.n; lent = s.lent; background = s.background; rows = s.rows ++ (o ∷ []); list = s.list; current = s.current }

-- a filling: row k with the marks added
abbrev pub after_fill : State → ℕ → Object → State
after_fill s k m = record { n = s.n; lent = s.lent; background = s.background; rows = filled_at k m s.rows; list = s.list; current = s.current }

-- ---- what an accepted call does

-- at M: Finished. Where the reach differs: Asked. Else the next set.
unfoldable pub perform_step : State → Turn
perform_step s =
    elim (standing s) [
      | whole ↦ turn finished s
      | tight ↦ turn moved (after_move s)
      | open-question ↦ turn (asked (question s)) s
    ]

-- the first row that refutes, where there is one
unfoldable pub refuted_at : ℕ → ℕ → Answer
refuted_at place rows = elim (ltb place rows) [ true ↦ refuted place | false ↦ unrefuted ]

unfoldable pub performed : State → Call → Turn
performed s step = perform_step s
performed s accept = turn taken (after_yes s)
performed s (reject o) = turn taken (after_filing s o)
performed s (follow r) = turn (followed (follows (force s) r)) s
performed s (refute r) = turn (refuted_at (first_refuting (force s) s.rows r) (length s.rows)) s
performed s (test o) = turn refuting s
performed s (file o) = turn taken (after_filing s o)
performed s (fill k m) = turn taken (after_fill s k m)

-- ---- a call, with its checks

unfoldable pub checks_of : State → Call → List Check
checks_of s step = session_checks s []
checks_of s accept = session_checks s [] ++ yes_checks s
checks_of s (reject o) = session_checks s [] ++ no_checks s o
checks_of s (follow r) = session_checks s (r ∷ [])
checks_of s (refute r) = session_checks s (r ∷ [])
checks_of s (test o) = session_checks s [] ++ test_checks s o
checks_of s (file o) = session_checks s [] ++ filing_checks s o
checks_of s (fill k m) = session_checks s [] ++ fill_checks s k m

unfoldable pub perform : State → Call → Turn
perform s c = elim (first_failing (checks_of s c)) [ none ↦ performed s c | some r ↦ turn (refused r) s ]

-- the state after a list of calls
unfoldable pub run : State → List Call → State
run s [] = s
run s (c ∷ cs) = run (perform s c).after cs

-- ---- the opening

pub data Opening : Type 0 where
  opened : State → Opening
  rejected : Refusal → Opening

-- the list is empty, and the current set is the closure of the empty set under the background
abbrev pub opening_state : ℕ → Lent → List (Implication ℕ) → List Object → State
opening_state n lent background rows =
    record { n = n; lent = lent; background = background; rows = rows; list = []; current = closure background 0 }

-- Checks 1 to 6 on what is given. The list is empty and the current set is a closure, so that 7 and the list's part of 3
-- and 4 never fail here.
unfoldable pub opening : ℕ → Lent → List (Implication ℕ) → List Object → Opening
opening n lent background rows =
    elim (first_failing (session_checks (opening_state n lent background rows) [])) [
      | none ↦ opened (opening_state n lent background rows)
      | some r ↦ rejected r
    ]
