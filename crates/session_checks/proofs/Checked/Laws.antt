-- Of two verdicts, the first that refuses is that of their `and` (`and-first`), and that of both lists of checks (`first-of`).
use Rattle.std.specs.Prelude.{◌≡◌, refl, List, ◌++◌, Result, Ok, Err}
use Rattle.std.specs.Result.{result_and}
use Rattle.std.proofs.Common.{sym}
use Rattle.std.proofs.Math.Option.{Option, none, some}
use Rattle.session.specs.declared.Refusal.{Refusal}
use Rattle.machine.specs.Checks.{Check, first_failing}
use Rattle.machine.proofs.Checks.Laws.{passed, failing-append, failing-first}
use Rattle.size_checks.specs.Verdicts.{verdict_of}
use Rattle.session_checks.specs.Checked.{first_of}

pub and-first : (v w : Result (Unit {0}) Refusal) → verdict_of (result_and v w) ≡ first_of (verdict_of v) (verdict_of w)
and-first (Ok passed) w = refl
and-first (Err r) w = refl

pub first-of : (cs ds : List Check) → first_of (first_failing cs) (first_failing ds) ≡ first_failing (cs ++ ds)
first-of cs ds = go (first_failing cs) refl
  where
    go : (o : Option Refusal) → first_failing cs ≡ o → first_of o (first_failing ds) ≡ first_failing (cs ++ ds)
    go none e = sym (failing-append cs ds (passed cs e))
    go (some r) e = sym (failing-first cs ds r e)
