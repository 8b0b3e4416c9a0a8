-- The no is what it was before: of its checks, those of the test followed by those of the filing, check 9 stands twice, and the second time it
-- decides nothing (`once-enough`).
use Rattle.std.specs.Prelude.{◌≡◌, []}
use Rattle.std.proofs.Common.{ap}
use Rattle.std.proofs.Math.Option.{none, some}
use Rattle.context.specs.Objects.{Object}
use Rattle.machine.specs.Checks.{State, session_checks, test_checks, filing_checks}
use Rattle.machine.proofs.Checks.Laws.{failing-behind, once-enough}
use Rattle.machine.specs.Machine.{reject, taken, refused, Turn, turn, after_filing, performed, checks_of, perform}
use Rattle.demands.specs.NoBefore.{checks_before, no_before, NoBefore}

as_before : (s : State) (o : Object) → perform s (reject o) ≡ no_before s o
unfolding perform performed checks_of no_before checks_before test_checks filing_checks
as_before s o =
    ap (λ v. elim v as (λ y. Turn) [ none ↦ turn taken (after_filing s o) | some r ↦ turn (refused r) s ])
    (failing-behind (session_checks s []) _ _ (once-enough _ _ _ _))

pub no-before : NoBefore
no-before = record { as_before = as_before }
