-- Each beat keeps what the loop is about, and comes nearer to the end.
use Rattle.std.proofs.Common.{arith, length}
use Rattle.context.specs.Objects.{objects_of}
use Rattle.interview_replies.specs.Holding.{holding}
use Rattle.handed_output.proofs.Handing.Laws.{hands_none, hands_on}
use Rattle.interview_beat.specs.Running.{remaining, along-fits, running-start, turned}
use Rattle.table_interview.proofs.run_beats.Goals as goal

pub loop-next-init : goal.loop-next-init
loop-next-init g c =
    let a = c.args in
    (running-start a.objects a.table.now a.start a.rows.now a.list.now c.requires.along a.out.now, λ fits. hands_none a.before)

pub returns-in_default : goal.returns-in_default
returns-in_default g c =
    let a = c.args in
    let l = c.loop-next in
    let b = c.advance-beaten in
    let os = objects_of a.objects a.table.now in
    let whole = remaining os (holding a.start a.rows.now a.list.now) a.start.changes in
    let fit = along-fits a.objects a.table.now l.interview l.rows l.list l.invariant.0.along c.requires.objects_in_bounds in
    let t = turned os whole a.out.now l.interview l.rows l.list l.out l.at l.invariant.0 b.result b.new.rows b.new.list b.new.out (b.ensures fit) in (
      t.all c.in_default.is,
      λ fits.
          hands_on a.before l.handed c.hand_over-handed.result l.at b.result.at (length b.new.out) t.within.0 t.within.1
          (omega (arith, b.auto.out, l.auto.out, fits)) (l.invariant.1 fits) c.hand_over-handed.ensures,
    )

pub loop-next-smaller : goal.loop-next-smaller
loop-next-smaller g c =
    let a = c.args in
    let l = c.loop-next in
    let b = c.advance-beaten in
    let os = objects_of a.objects a.table.now in
    let whole = remaining os (holding a.start a.rows.now a.list.now) a.start.changes in
    let fit = along-fits a.objects a.table.now l.interview l.rows l.list l.invariant.0.along c.requires.objects_in_bounds in
    let t = turned os whole a.out.now l.interview l.rows l.list l.out l.at l.invariant.0 b.result b.new.rows b.new.list b.new.out (b.ensures fit) in
    t.less c.in-Some.next c.in-Some.is

pub loop-next-preserved : goal.loop-next-preserved
loop-next-preserved g c =
    let a = c.args in
    let l = c.loop-next in
    let b = c.advance-beaten in
    let os = objects_of a.objects a.table.now in
    let whole = remaining os (holding a.start a.rows.now a.list.now) a.start.changes in
    let fit = along-fits a.objects a.table.now l.interview l.rows l.list l.invariant.0.along c.requires.objects_in_bounds in
    let t = turned os whole a.out.now l.interview l.rows l.list l.out l.at l.invariant.0 b.result b.new.rows b.new.list b.new.out (b.ensures fit) in (
      t.on c.in-Some.next c.in-Some.is,
      λ fits.
          hands_on a.before l.handed c.hand_over-handed.result l.at b.result.at (length b.new.out) t.within.0 t.within.1
          (omega (arith, b.auto.out, l.auto.out, fits)) (l.invariant.1 fits) c.hand_over-handed.ensures,
    )
