-- The code takes the cases of the beat in their order.
use Rattle.text.specs.Page.{page}
use Rattle.interview_replies.proofs.Holding.Laws.{leaves-same}
use Rattle.interview_beat.proofs.Beat.Laws.{beat-end, beat-reply, beat-move}
use Rattle.interview_beat.proofs.advance.Goals as goal

pub returns-then-current-full_set : goal.returns-then-current-full_set
returns-then-current-full_set c fits =
    let a = c.args in
    beat-end a.interview a.rows.now a.list.now a.objects a.table.now fits c.full_set.result c.full_set.ensures
    _ c.if-current-full_set.true (c.finish.ensures fits.in_list)

pub returns-then-reach-current : goal.returns-then-reach-current
returns-then-reach-current c fits =
    let a = c.args in
    leaves-same
    (beat-reply a.interview a.rows.now a.list.now a.objects a.table.now fits c.full_set.result c.full_set.ensures
    c.reach_of-reach.result c.if-current-full_set.false c.reach_of-reach.ensures c.difference-conclusion.result c.difference-conclusion.ensures c.if-reach-current.true)
    (c.reply.ensures fits)

pub returns : goal.returns
returns c fits =
    let a = c.args in
    beat-move a.interview a.rows.now a.list.now a.objects a.table.now fits c.full_set.result c.full_set.ensures
    c.reach_of-reach.result c.if-current-full_set.false c.reach_of-reach.ensures a.at (page a.out.now a.at)
    c.next_of.result c.count_change.result c.if-reach-current.false c.next_of.ensures c.count_change.ensures
