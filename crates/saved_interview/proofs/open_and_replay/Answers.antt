-- Every call was made on the opened session; the arms where nothing was done need no answer.
use Rattle.std.proofs.Common.{true≢false}
use Rattle.saved_interview.proofs.TakingUp.Theorem.{made-outcome}
use Rattle.saved_interview.proofs.open_and_replay.Goals as goal

pub returns-in-Ok-replay : goal.returns-in-Ok-replay
returns-in-Ok-replay c =
    rw c.changed.ensures
    (made-outcome _ _ _ _ _ _ _ _ _ c.in-Ok.start c.in-Ok.ensures c.in-Ok-replay.ensures c.in_words.ensures, λ e. absurd (true≢false e))
