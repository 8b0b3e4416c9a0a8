-- A record that is stored only where it changed is as good as one that is stored always.
use Rattle.machine.proofs.Calls.Laws.{chosen-made}
use Rattle.lent_session.proofs.accept.Goals as goal

pub returns : goal.returns
returns c = rw (c.store.ensures.answered, c.store.ensures.stored) (chosen-made c.accept.ensures)
