-- Document 01's refusals 1 to 12, and 32 and 33 of document 02, as facts about a state, a rule asked about, a reply, a test, a filing and a
-- filling ("Refusals in checking order").
-- `Laws` proves that the checks pass just where these hold, and `Kept` that they hold of checks 1 to 7 from an accepted opening on.
use Rattle.std.specs.Prelude.{◌≡◌, true, ℕ, ◌*◌, ◌/◌, ◌%◌, ◌≤◌, ◌<◌, length}
use Rattle.theory.specs.Lists.{All}
use Rattle.theory.specs.Implications.{Over}
use Rattle.attribute_set.specs.Sets.{Sub, Apart, full}
use Rattle.attribute_set.proofs.Words.{words}
use Rattle.implication.specs.Closure.{closure}
use Rattle.context.specs.Objects.{Object, refutes}
use Rattle.context.specs.Filling.{joined, object_at}
use Rattle.session.specs.Limits.{most_attributes, most_objects, most_implications}
use Rattle.machine.specs.Checks.{State, force, question, with_question}
use Rattle.machine.proofs.Checks.Laws.{InM, Stands}

-- a lent length: whole places, and no more than a limit allows
pub record Places (most length : ℕ) : Type 0 where
  pub even : length % 2 ≡ 0
  pub within : length ≤ most * 2

-- checks 1 to 7 of a state
pub record Fine (s : State) : Type 0 where
  -- 1
  pub some_attribute : 1 ≤ s.n
  pub attributes : s.n ≤ most_attributes
  -- 2
  pub row_words : Places most_objects s.lent.rows
  pub list_words : Places most_implications s.lent.list
  pub background_words : Places most_implications s.lent.background
  -- 3
  pub row_places : length s.rows ≤ s.lent.rows / 2
  pub list_places : length s.list ≤ s.lent.list / 2
  -- 4
  pub rows_in : All (InM s.n) s.rows
  pub rules_in : All (Over words (full s.n)) (force s)
  pub current_in : Sub s.current (full s.n)
  -- 5
  pub once : All (λ o. Apart o.yes_marks o.no_marks) s.rows
  -- 6
  pub consistent : All (λ o. Apart (closure (force s) o.yes_marks) o.no_marks) s.rows
  -- 7
  pub closed : closure (force s) s.current ≡ s.current

-- checks 8, 11 and 12 of a yes: a question stands, no row in use contradicts with it in the list, and a place is left
pub record YesFits (s : State) : Type 0 where
  pub stands : Stands s
  pub consistent : All (λ o. Apart (closure (with_question s) o.yes_marks) o.no_marks) s.rows
  pub place : length s.list < s.lent.list / 2

-- checks 8 to 10 of a test: a question stands, and the offered row is a row over M that refutes it
pub record TestFits (s : State) (o : Object) : Type 0 where
  pub stands : Stands s
  pub inside : InM s.n o
  pub once : Apart o.yes_marks o.no_marks
  pub refuting : refutes (force s) o (question s) ≡ true

-- checks 9, 11 and 12 of a filing: the offered row is a row over M that does not contradict, and a place is left. No question is asked for.
pub record FilingFits (s : State) (o : Object) : Type 0 where
  pub inside : InM s.n o
  pub once : Apart o.yes_marks o.no_marks
  pub consistent : Apart (closure (force s) o.yes_marks) o.no_marks
  pub place : length s.rows < s.lent.rows / 2

-- checks 32, 9, 33 and 11 of a filling: row k is in use, the offered marks are those of a row over M, by written marks none makes a yes a no
-- or the reverse, and with them row k does not contradict. Whether a mark is known already is not asked, nor whether a question stands.
pub record FillFits (s : State) (k : ℕ) (m : Object) : Type 0 where
  pub used : k < length s.rows
  pub inside : InM s.n m
  pub once : Apart m.yes_marks m.no_marks
  pub yes_stays : Apart (object_at s.rows k).yes_marks m.no_marks
  pub no_stays : Apart (object_at s.rows k).no_marks m.yes_marks
  pub consistent : Apart (closure (force s) (joined (object_at s.rows k) m).yes_marks) (joined (object_at s.rows k) m).no_marks

-- checks 8 to 12 of a no: a question stands, the offered row is a row over M that refutes it and does not contradict, and a place is left
pub record NoFits (s : State) (o : Object) : Type 0 where
  pub stands : Stands s
  pub inside : InM s.n o
  pub once : Apart o.yes_marks o.no_marks
  pub refuting : refutes (force s) o (question s) ≡ true
  pub consistent : Apart (closure (force s) o.yes_marks) o.no_marks
  pub place : length s.rows < s.lent.rows / 2
