-- A refusal is the machine's and leaves the words; else the question is written at the next place, which the checks leave free, and
-- the next closed set is taken under the list as written.
use Rattle.std.proofs.Common.{arith, length-set}
use Rattle.session_replies.proofs.Answers.Laws.{refused-turns}
use Rattle.session_yes.proofs.Yes.Laws.{not_accepted, room, accepted}
use Rattle.session_yes.proofs.accept.Goals as goal

pub returns-in-Err : goal.returns-in-Err
returns-in-Err c = refused-turns _ c.refused.ensures (not_accepted _ c.in-Err.ensures)

pub bounds-list-rules-2 : goal.bounds-list-rules-2
bounds-list-rules-2 c =
    let a = c.args in
    rw length-set (omega (arith, room a.session a.rows.now a.list.now a.background.now _ c.in-Ok.ensures))

pub returns : goal.returns
returns c =
    let a = c.args in
    rw c.changed.ensures (accepted a.session a.rows.now a.list.now a.background.now _ c.in-Ok.ensures c.next_of-next.ensures)
