-- The accepted replies of a list of calls, filings and fillings among them, the rows that they give, and when a complete table is truthful to
-- them (01, "The interview"; 02, requests 6/13 and 7/13).
use Rattle.std.specs.Prelude.{◌≡◌, Bool, true, false, List, [], ◌∷◌, ◌++◌, ℕ, eqb}
use Rattle.std.proofs.Math.Option.{Option, none, some}
use Rattle.theory.specs.Lists.{All}
use Rattle.theory.specs.Implications.{Implication}
use Rattle.context.specs.Objects.{Object, object}
use Rattle.context.specs.Filling.{joined, filled_at}
use Rattle.context.specs.Tables.{Table, AgreesObject, AgreesImplication}
use Rattle.machine.specs.Checks.{State}
use Rattle.machine.specs.Machine.{Call, step, accept, reject, follow, refute, test, file, fill, Answer, finished, moved, asked, taken, followed, refuted, unrefuted, refuting, refused, perform, run}

-- an accepted reply: the question that a yes agreed to, the object that a no or a filing offered, or a row number and the marks that a
-- filling offered for that row
pub data Reply : Type 0 where
  agreed : Implication ℕ → Reply
  offered : Object → Reply
  filled : ℕ → Object → Reply

unfoldable pub asked_by : Answer → Option (Implication ℕ)
asked_by finished = none
asked_by moved = none
asked_by (asked q) = some q
asked_by taken = none
asked_by (followed b) = none
asked_by (refuted p) = none
asked_by unrefuted = none
asked_by refuting = none
asked_by (refused r) = none

-- the question of a reply in this state: what a step in its place would answer with Asked
unfoldable pub question_at : State → Option (Implication ℕ)
question_at s = asked_by (perform s step).answer

unfoldable pub is_taken : Answer → Bool
is_taken finished = false
is_taken moved = false
is_taken (asked q) = false
is_taken taken = true
is_taken (followed b) = false
is_taken (refuted p) = false
is_taken unrefuted = false
is_taken refuting = false
is_taken (refused r) = false

abbrev pub agreed_to : Option (Implication ℕ) → List Reply
agreed_to none = []
agreed_to (some q) = agreed q ∷ []

-- the reply that a call is, once accepted
unfoldable pub made_by : State → Call → List Reply
made_by s step = []
made_by s accept = agreed_to (question_at s)
made_by s (reject o) = offered o ∷ []
made_by s (follow r) = []
made_by s (refute r) = []
made_by s (test o) = []
made_by s (file o) = offered o ∷ []
made_by s (fill k m) = filled k m ∷ []

unfoldable pub reply_of : State → Call → List Reply
reply_of s c = elim (is_taken (perform s c).answer) [ true ↦ made_by s c | false ↦ [] ]

-- the accepted replies of a list of calls, in order
unfoldable pub replies : State → List Call → List Reply
replies s [] = []
replies s (c ∷ cs) = reply_of s c ++ replies (perform s c).after cs

-- the questions of the accepted yes calls; the offered objects of the accepted no calls and filings
unfoldable pub agreed_in : List Reply → List (Implication ℕ)
agreed_in [] = []
agreed_in (agreed q ∷ rs) = q ∷ agreed_in rs
agreed_in (offered o ∷ rs) = agreed_in rs
agreed_in (filled k m ∷ rs) = agreed_in rs

unfoldable pub offered_in : List Reply → List Object
offered_in [] = []
offered_in (agreed q ∷ rs) = offered_in rs
offered_in (offered o ∷ rs) = o ∷ offered_in rs
offered_in (filled k m ∷ rs) = offered_in rs

-- rows as filled: each with the marks of the accepted fillings of its number (`row-filled`)
unfoldable pub filled_by : List Reply → List Object → List Object
filled_by [] os = os
filled_by (agreed q ∷ rs) os = filled_by rs os
filled_by (offered o ∷ rs) os = filled_by rs os
filled_by (filled k m ∷ rs) os = filled_by rs (filled_at k m os)

-- the marks of the accepted fillings of row k, together
unfoldable pub marks_for : ℕ → List Reply → Object
marks_for k [] = object 0 0
marks_for k (agreed q ∷ rs) = marks_for k rs
marks_for k (offered o ∷ rs) = marks_for k rs
marks_for k (filled j m ∷ rs) = elim (eqb k j) [ true ↦ joined m (marks_for k rs) | false ↦ marks_for k rs ]

-- a reply that is no filling of row k
abbrev pub FillsOther : ℕ → Reply → Type 0
FillsOther k (agreed q) = Unit {0}
FillsOther k (offered o) = Unit {0}
FillsOther k (filled j m) = k ≡ j → ⊥

-- a table agrees with a yes if it agrees with the implication, with a no or a filing if it agrees with the offered object; the marks of a
-- filling stand in the rows as filled, and say nothing else
abbrev pub AgreesReply : List Object → Reply → Type 0
AgreesReply t (agreed q) = AgreesImplication t q
AgreesReply t (offered o) = AgreesObject t o
AgreesReply t (filled k m) = Unit {0}

-- truthful: the complete table agrees with the background, all rows as filled and each accepted reply
pub record Truthful (t : List Object) (s : State) (calls : List Call) : Type 0 where
  pub complete : Table s.n t
  pub background : All (AgreesImplication t) s.background
  pub rows : All (AgreesObject t) (run s calls).rows
  pub replied : All (AgreesReply t) (replies s calls)
