-- The loop: i calls of the log are made.
use Rattle.call_logs.specs.Replay.{log_words}
use Rattle.call_logs.proofs.OfReplay.Loop.{Going}
use Rattle.call_logs.proofs.replay.Given as goal

abbrev pub invariant-loop-i : goal.invariant-loop-i
invariant-loop-i l =
    Going l.background l.calls l.initial.current (log_words l.initial.rows l.initial.list l.initial.answers) l.current
    (log_words l.rows l.list l.answers) l.i
