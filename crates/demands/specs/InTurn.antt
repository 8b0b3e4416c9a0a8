-- The old reply is the two in turn (02, request 6/13): for every state and every offered row, a no answers and leaves what the test does,
-- followed, where it passes, by the filing. `Theorem` proves it; that this is still document 01's no is said in `NoBefore`.
use Rattle.std.specs.Prelude.{◌≡◌, Bool, true, false}
use Rattle.context.specs.Objects.{Object}
use Rattle.machine.specs.Checks.{State}
use Rattle.machine.specs.Machine.{Call, reject, test, file, Answer, finished, moved, asked, taken, followed, refuted, unrefuted, refuting, refused, Turn, perform}

abbrev pub is_refused : Answer → Bool
is_refused finished = false
is_refused moved = false
is_refused (asked q) = false
is_refused taken = false
is_refused (followed b) = false
is_refused (refuted p) = false
is_refused unrefuted = false
is_refused refuting = false
is_refused (refused r) = true

-- a call, and where it is not refused another in the state that it leaves
unfoldable pub in_turn : State → Call → Call → Turn
in_turn s c d = elim (is_refused (perform s c).answer) [ true ↦ perform s c | false ↦ perform (perform s c).after d ]

pub record InTurn : Type 0 where
  -- the test changes nothing, whatever it answers
  pub test_leaves : (s : State) (o : Object) → (perform s (test o)).after ≡ s
  pub as_in_turn : (s : State) (o : Object) → perform s (reject o) ≡ in_turn s (test o) (file o)
