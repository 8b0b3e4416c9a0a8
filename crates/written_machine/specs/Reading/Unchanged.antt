-- Where all rows are complete the machine is what it was: for every state of which each row in use is complete, and every call that
-- offers to the question, if any, a complete row that does not contradict the rules in force, the call's answer and the state after it are
-- those by written marks. Contradicting rows, rules outside M and n above 64 are refused by 1 to 7 in both.
use Rattle.std.specs.Prelude.{◌≡◌, false}
use Rattle.theory.specs.Lists.{All}
use Rattle.context.specs.Objects.{contradicts}
use Rattle.context.specs.Tables.{Complete}
use Rattle.machine.specs.Checks.{State, force}
use Rattle.machine.specs.Machine.{Call, step, accept, reject, follow, refute, test, file, fill, perform}
use Rattle.written_machine.specs.Reading.{written_perform}

-- the row that a call offers to the question, if any, is complete and does not contradict the implications in force; of a filed row and
-- of a filling only written marks are read
abbrev pub OffersComplete : State → Call → Type 0
OffersComplete s step = Unit {0}
OffersComplete s accept = Unit {0}
OffersComplete s (reject o) = Complete s.n o × (contradicts (force s) o ≡ false)
OffersComplete s (follow r) = Unit {0}
OffersComplete s (refute r) = Unit {0}
OffersComplete s (test o) = Complete s.n o × (contradicts (force s) o ≡ false)
OffersComplete s (file o) = Unit {0}
OffersComplete s (fill k m) = Unit {0}

pub record Unchanged : Type 0 where
  pub unchanged : (s : State) (c : Call) → All (Complete s.n) s.rows → OffersComplete s c → perform s c ≡ written_perform s c
