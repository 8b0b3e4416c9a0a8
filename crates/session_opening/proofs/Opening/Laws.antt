-- The state that the opening leaves.
use Rattle.std.specs.Prelude.{◌≡◌, List, ℕ, length}
use Rattle.std.proofs.Common.{append-nil}
use Rattle.implication.specs.Pairs.{pairs}
use Rattle.implication.specs.Closure.{all_implications, in_force, closure}
use Rattle.context.specs.Objects.{objects_of}
use Rattle.machine.specs.Machine.{opening_state}
use Rattle.machine.specs.Calls.{state_of}

-- the current set that the code opens with is the machine's: no rule of the list is in force
pub state_opened : (n used : ℕ) (rows list background : List ℕ) (current : ℕ) → current ≡ closure (in_force background list 0) 0
    → state_of (record { n = n; rows = used; rules = 0; current = current }) rows list background
    ≡ opening_state n (record { rows = length rows; list = length list; background = length background })
    (all_implications background) (objects_of used rows)
unfolding pairs
state_opened n used rows list background current e = rw (e, append-nil)
