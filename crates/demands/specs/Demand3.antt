-- Demand 3, points 2 to 5, for every opening that is accepted and every list of calls with any arguments, refused ones
-- included. Point 1, that the calls that run do what this machine does, belongs to the calls. `Theorem` proves all of it.
use Rattle.std.specs.Prelude.{◌≡◌, ◌↔◌, true, false, List, ◌++◌, ℕ, ◌≤◌, length}
use Rattle.theory.specs.Lists.{All}
use Rattle.theory.specs.Implications.{Implication, Over}
use Rattle.attribute_set.specs.Sets.{full}
use Rattle.attribute_set.proofs.Words.{words}
use Rattle.implication.specs.Closure.{follows}
use Rattle.context.specs.Objects.{Object, refutes}
use Rattle.machine.specs.Checks.{Lent, State, force}
use Rattle.machine.specs.Machine.{Call, step, finished, perform, run, opening, opened}
use Rattle.demands.specs.Replies.{agreed_in, offered_in, filled_by, replies, Truthful}

-- an interview is finished if a step after its last call answers Finished
abbrev pub Finished : State → Type 0
Finished s = (perform s step).answer ≡ finished

-- an implication over M (01: a rule over M)
abbrev pub OverM : ℕ → Implication ℕ → Type 0
OverM n r = Over words (full n) r

-- no row refutes r, by what it has and lacks under the implications in force (02, request 5/13)
abbrev pub Unrefuted : State → Implication ℕ → Type 0
Unrefuted s r = All (λ o. refutes (force s) o r ≡ false) s.rows

-- two lists over M have the same consequences: each joined to the background, the same implications over M follow
abbrev pub SameConsequences : ℕ → List (Implication ℕ) → List (Implication ℕ) → List (Implication ℕ) → Type 0
SameConsequences n background l l' = (r : Implication ℕ) → OverM n r → (follows (background ++ l) r ≡ true) ↔ (follows (background ++ l') r ≡ true)

-- what holds after an opening with these n, lent lengths, background and rows, which left `start`, and a list of calls
pub record AfterCalls (n : ℕ) (lent : Lent) (background : List (Implication ℕ)) (rows : List Object) (start : State) (calls : List Call) : Type 0 where
  -- nothing alters n, the lent lengths and the background
  pub same_n : (run start calls).n ≡ n
  pub same_lent : (run start calls).lent ≡ lent
  pub same_background : (run start calls).background ≡ background
  -- 2. the rows are those of the opening, then the offered rows of the accepted no calls and filings in order, each with the marks of the
  -- accepted fillings of its number; the list is the questions of the accepted yes calls in order
  pub all_rows : (run start calls).rows ≡ filled_by (replies start calls) (rows ++ offered_in (replies start calls))
  pub all_list : (run start calls).list ≡ agreed_in (replies start calls)
  -- 3. decided: once finished, an implication over M follows from background and list just if no row refutes it
  pub decided : Finished (run start calls) → (r : Implication ℕ) → OverM n r
      → (follows (background ++ (run start calls).list) r ≡ true) ↔ Unrefuted (run start calls) r
  -- 4. shortest, at every moment: no list over M with the same consequences has fewer implications
  pub shortest : (l : List (Implication ℕ)) → All (OverM n) l → SameConsequences n background (run start calls).list l
      → length (run start calls).list ≤ length l

-- 5. same list: two interviews with the same n and background, both finished and both truthful to one complete table, end in
-- the same list; opening rows, lent lengths and calls may differ
abbrev pub SameList : ℕ → List (Implication ℕ) → Type 0
SameList n background =
    (lent lent' : Lent) (rows rows' : List Object) (start start' : State) → opening n lent background rows ≡ opened start
    → opening n lent' background rows' ≡ opened start' → (calls calls' : List Call) → Finished (run start calls) → Finished (run start' calls')
    → (t : List Object) → Truthful t start calls → Truthful t start' calls' → (run start calls).list ≡ (run start' calls').list

pub record Demand3 : Type 0 where
  pub after_calls : (n : ℕ) (lent : Lent) (background : List (Implication ℕ)) (rows : List Object) (start : State)
      → opening n lent background rows ≡ opened start → (calls : List Call) → AfterCalls n lent background rows start calls
  pub same_list : (n : ℕ) (background : List (Implication ℕ)) → SameList n background
