-- What is written and what the interview still writes make the whole; all of what is written is handed over; each beat but the last comes nearer to the end.
use Rattle.std.proofs.Common.{length, ◌+◌, ◌≤◌}
use Rattle.context.specs.Objects.{objects_of}
use Rattle.transcript.proofs.Output.Ends.{measure}
use Rattle.handed_output.specs.Handing.{most_counted, Hands}
use Rattle.interview_replies.specs.Holding.{holding}
use Rattle.interview_beat.specs.Running.{remaining, Running}
use Rattle.table_interview.proofs.run_beats.Given as goal

abbrev pub invariant-loop-next : goal.invariant-loop-next
invariant-loop-next g l =
    let f = l.fn in
    let os = objects_of f.objects f.table in
    Running os (remaining os (holding f.start f.rows f.list) f.start.changes) f.out l.interview l.rows l.list l.out l.at
    × (f.before.bytes + length f.out ≤ most_counted → Hands f.before l.at l.handed)

abbrev pub decreases-loop-next : goal.decreases-loop-next
decreases-loop-next g l = measure (holding l.interview l.rows l.list)
