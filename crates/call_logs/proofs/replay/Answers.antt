-- What is made of the log, with what the machine makes of the calls left, is what it makes of the whole log.
use Rattle.std.proofs.Common.{arith}
use Rattle.call_logs.specs.Replay.{log_words}
use Rattle.call_logs.proofs.OfReplay.Loop.{going_on, going_end}
use Rattle.call_logs.proofs.replay.Goals as goal

pub loop-i-preserved : goal.loop-i-preserved
loop-i-preserved c =
    let l = c.loop-i in
    going_on _ _ _ _ l.current (log_words l.rows l.list l.answers) l.i l.invariant c.loop-i-test.true (omega arith)
    c.replay_one-turn.result.answer _ _ _ _ c.replay_one-turn.ensures c.write_answer.ensures

pub returns : goal.returns
returns c = going_end _ _ _ _ _ _ c.loop-i.i c.loop-i.invariant c.loop-i-test.false
