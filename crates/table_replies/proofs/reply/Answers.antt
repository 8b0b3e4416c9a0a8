-- The first row of the table that refutes decides, and its words are the table's.
use Rattle.interview_replies.proofs.Holding.Laws.{leaves-same}
use Rattle.table_replies.proofs.OfReply.Laws.{reply-no, reply-yes}
use Rattle.table_replies.proofs.reply.Goals as goal

pub returns-then-place-whole : goal.returns-then-place-whole
returns-then-place-whole c fits =
    let first = c.first_refuting-place in
    let whole = c.min-whole in
    let a = c.args in
    leaves-same
    (reply-no a.interview a.rows.now a.list.now a.conclusion a.objects a.table.now fits first.result whole.result first.ensures whole.ensures c.if-place-whole.true)
    c.say_no.ensures

pub returns : goal.returns
returns c fits =
    let first = c.first_refuting-place in
    let whole = c.min-whole in
    let a = c.args in
    leaves-same
    (reply-yes a.interview a.rows.now a.list.now a.conclusion a.objects a.table.now fits first.result whole.result first.ensures whole.ensures c.if-place-whole.false)
    (c.say_yes.ensures fits.attributes)
