-- The refusals of document 01, in checking order ("Refusals in checking order"), with those of the calls of document 02: each check has its
-- number, whether it fails, and the place it names then; the first that fails decides. Everything is decided by computing.
use Rattle.std.specs.Prelude.{Bool, true, false, not, ◌||◌, List, [], ◌∷◌, ◌++◌, ℕ, ◌/◌, length, eqb, ltb, leb}
use Rattle.std.proofs.Math.Option.{Option, none, some}
use Rattle.session.specs.declared.Refusal.{Refusal}
use Rattle.session.specs.Refusals.{refusal}
use Rattle.session.specs.Limits.{most_attributes, most_objects, most_implications, bad_length}
use Rattle.theory.specs.Implications.{Implication}
use Rattle.attribute_set.specs.Sets.{inside, full, without}
use Rattle.implication.specs.Closure.{implication, closure}
use Rattle.context.specs.Places.{lowest, anywhere}
use Rattle.context.specs.Objects.{Object, refutes, marked_twice, contradicts}
use Rattle.context.specs.Filling.{joined, reverses, object_at}
use Rattle.reach.specs.Reach.{reach}

-- the lengths of the lent slices, in words: two to an object, two to an implication
pub record Lent : Type 0 where
  pub rows : ℕ
  pub list : ℕ
  pub background : ℕ

-- what the plain machine holds: n, the background, the lent lengths, the rows and the list in use, the current set
pub record State : Type 0 where
  pub n : ℕ
  pub lent : Lent
  pub background : List (Implication ℕ)
  pub rows : List Object
  pub list : List (Implication ℕ)
  pub current : ℕ

-- the implications in force (01: rules in force): background and list together
abbrev pub force : State → List (Implication ℕ)
force s = s.background ++ s.list

-- the reach of the current set
abbrev pub reach_of : State → ℕ
reach_of s = reach (force s) s.n s.rows s.current

-- how the current set stands: it is M, or its reach is itself, or its reach differs from it, so that a question stands
pub data Standing : Type 0 where
  whole : Standing
  tight : Standing
  open-question : Standing

unfoldable pub standing : State → Standing
standing s =
    elim (eqb s.current (full s.n)) [
      | true ↦ whole
      | false ↦ elim (eqb (reach_of s) s.current) [ true ↦ tight | false ↦ open-question ]
    ]

unfoldable pub question_stands : State → Bool
question_stands s = elim (standing s) [ whole ↦ false | tight ↦ false | open-question ↦ true ]

-- the question: from the current set to the rest of its reach
abbrev pub question : State → Implication ℕ
question s = implication s.current (without (reach_of s) s.current)

-- the state with the question in the list
abbrev pub with_question : State → List (Implication ℕ)
with_question s = s.background ++ (s.list ++ (question s ∷ []))

-- ---- the checks that fail

-- a check: its number, whether it fails, and the place that a refusal then names
pub record Check : Type 0 where
  pub number : ℕ
  pub fails : Bool
  pub place : ℕ

abbrev pub check : ℕ → Bool → ℕ → Check
check k b p = record { number = k; fails = b; place = p }

-- the first check that fails
unfoldable pub first_failing : List Check → Option Refusal
first_failing [] = none
first_failing (c ∷ cs) = elim c.fails [ true ↦ some (refusal c.number c.place) | false ↦ first_failing cs ]

-- ---- what the checks test

-- one of two sets has an attribute outside m
unfoldable pub strange : ℕ → ℕ → ℕ → Bool
strange m a b = not (inside a m) || not (inside b m)

-- so of an object and of an implication over the first n attributes
abbrev pub strange_object : ℕ → Object → Bool
strange_object n o = strange (full n) o.yes_marks o.no_marks

abbrev pub strange_implication : ℕ → Implication ℕ → Bool
strange_implication n r = strange (full n) r.premise r.conclusion

-- a row in use, a rule in force, a rule asked about or the current set has an attribute outside M
unfoldable pub outside_m : State → List (Implication ℕ) → Bool
outside_m s asked =
    anywhere (strange_object s.n) s.rows
    || (anywhere (strange_implication s.n) (force s ++ asked) || not (inside s.current (full s.n)))

-- ---- the checks, in 01's order; `asked` is the implication that a read-only call asks about, or none

unfoldable pub session_checks : State → List (Implication ℕ) → List Check
session_checks s asked =
    check 1 (eqb s.n 0 || ltb most_attributes s.n) 0
    ∷ check 2 (bad_length most_objects s.lent.rows || (bad_length most_implications s.lent.list || bad_length most_implications s.lent.background)) 0
    ∷ check 3 (ltb (s.lent.rows / 2) (length s.rows) || ltb (s.lent.list / 2) (length s.list)) 0
    ∷ check 4 (outside_m s asked) 0
    ∷ check 5 (anywhere marked_twice s.rows) (lowest marked_twice s.rows)
    ∷ check 6 (anywhere (contradicts (force s)) s.rows) (lowest (contradicts (force s)) s.rows)
    ∷ check 7 (not (eqb (closure (force s) s.current) s.current)) 0
    ∷ []

-- a yes: no question; a row in use contradicts with the new rule added; no place for a rule
unfoldable pub yes_checks : State → List Check
yes_checks s =
    check 8 (not (question_stands s)) 0
    ∷ check 11 (anywhere (contradicts (with_question s)) s.rows) (lowest (contradicts (with_question s)) s.rows)
    ∷ check 12 (leb (s.lent.list / 2) (length s.list)) 0
    ∷ []

-- an offered row: an attribute outside M, or one marked both ways
abbrev pub bad_row : ℕ → Object → Bool
bad_row n o = strange_object n o || marked_twice o

-- a test of an offered row (02, request 6/13): no question; a bad row; a row that does not refute the question
unfoldable pub test_checks : State → Object → List Check
test_checks s o =
    check 8 (not (question_stands s)) 0
    ∷ check 9 (bad_row s.n o) 0
    ∷ check 10 (not (refutes (force s) o (question s))) 0
    ∷ []

-- a filing of an offered row (02, request 6/13): a bad row; a row that contradicts; no place for a row
unfoldable pub filing_checks : State → Object → List Check
filing_checks s o =
    check 9 (bad_row s.n o) 0
    ∷ check 11 (contradicts (force s) o) 0
    ∷ check 12 (leb (s.lent.rows / 2) (length s.rows)) 0
    ∷ []

-- a filling of row k with offered marks (02, request 7/13): no row of that number in use; bad marks; a yes that would become a no or the reverse;
-- a row that contradicts with them
unfoldable pub fill_checks : State → ℕ → Object → List Check
fill_checks s k m =
    check 32 (leb (length s.rows) k) 0
    ∷ check 9 (bad_row s.n m) 0
    ∷ check 33 (reverses (object_at s.rows k) m) 0
    ∷ check 11 (contradicts (force s) (joined (object_at s.rows k) m)) 0
    ∷ []

-- a no: the test, then the filing
abbrev pub no_checks : State → Object → List Check
no_checks s o = test_checks s o ++ filing_checks s o
