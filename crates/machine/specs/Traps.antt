-- Where document 01's traps and worthless versions go wrong: for each a state in which they answer otherwise, one table below the
-- marked one. n = 3; the set {0, 2} is the word 5, and so on. `Traps.Proof` proves the whole table by computing the definitions.
use Rattle.std.specs.Prelude.{◌≡◌, List, [], ◌∷◌, ℕ}
use Rattle.theory.specs.Implications.{Implication}
use Rattle.implication.specs.Closure.{implication}
use Rattle.context.specs.Objects.{Object, object}
use Rattle.machine.specs.Checks.{State}
use Rattle.machine.specs.Machine.{step, accept, reject, moved, asked, taken, turn, perform, opening, opened}

-- no background; the list, the rows and the current set
abbrev pub state : List (Implication ℕ) → List Object → ℕ → State
state list rows current = record {
  n = 3;
  lent = record { rows = 8; list = 8; background = 0 };
  background = [];
  rows = rows;
  list = list;
  current = current;
}

-- the row that has nothing and lacks all: {} is its own reach
abbrev pub bare : Object
bare = object 0 7

pub record Traps : Type 0 where
  -- unknown is not no: a row with yes {0} and nothing else cuts nothing
  pub unknown : (perform (state [] (object 1 0 ∷ []) 0) step).answer ≡ asked (implication 0 7)
  -- the rows decide the question, the last one too
  pub no_rows : (perform (state [] [] 0) step).answer ≡ asked (implication 0 7)
  pub last_row : (perform (state [] (object 7 0 ∷ object 3 4 ∷ []) 0) step).answer ≡ asked (implication 0 3)
  -- the conclusion leaves the premise out
  pub rest : (perform (state [] [] 1) step).answer ≡ asked (implication 1 6)
  -- a no is taken: its row comes last and the set stays, which has another question then
  pub no_taken : perform (state [] (object 7 0 ∷ []) 0) (reject (object 1 6)) ≡ turn taken (state [] (object 7 0 ∷ object 1 6 ∷ []) 0)
  pub another_question : (perform (state [] (object 7 0 ∷ object 1 6 ∷ []) 0) step).answer ≡ asked (implication 0 1)
  -- a yes is taken and moves under the rule agreed to
  pub yes_taken : perform (state [] [] 0) accept ≡ turn taken (state (implication 0 7 ∷ []) [] 7)
  -- a second yes leaves the first rule where it is (02, request 8/13)
  pub second_yes : perform (state (implication 4 2 ∷ []) (bare ∷ []) 2) accept ≡ turn taken (state (implication 4 2 ∷ implication 2 5 ∷ []) (bare ∷ []) 1)
  -- the first set that equals its reach is not the end: a step moves, to the next set under the list too
  pub tight : perform (state [] (bare ∷ []) 0) step ≡ turn moved (state [] (bare ∷ []) 4)
  pub tight_listed : perform (state (implication 4 2 ∷ []) (bare ∷ []) 0) step ≡ turn moved (state (implication 4 2 ∷ []) (bare ∷ []) 2)
  -- and from the second set to the third, {1}, not to its reach, which is M
  pub third_set : perform (state [] (bare ∷ object 4 3 ∷ []) 4) step ≡ turn moved (state [] (bare ∷ object 4 3 ∷ []) 2)
  -- an opening with a question is not finished
  pub opening_asks : opening 3 (state [] [] 0).lent [] [] ≡ opened (state [] [] 0)
