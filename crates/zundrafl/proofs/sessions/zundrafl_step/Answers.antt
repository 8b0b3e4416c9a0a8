-- A record that is stored only where it changed is as good as one that is stored always.
use Rattle.machine.proofs.Calls.Laws.{chosen-made}
use Rattle.zundrafl.proofs.sessions.zundrafl_step.Goals as goal

pub returns : goal.returns
returns c = rw (c.store.ensures.stored, c.store.ensures.answered) (chosen-made c.step.ensures)
