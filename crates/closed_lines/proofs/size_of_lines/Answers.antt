-- The bytes of the line at the offset are counted; those of the lines behind it are still to count. No line is left where none is asked
-- for, or no byte is left.
use Rattle.std.proofs.Common.{ap, arith}
use Rattle.closed_lines.specs.Closed.{bytes_in}
use Rattle.closed_lines.proofs.Closed.Laws.{first-at, first-none, first-end, line-found}
use Rattle.closed_lines.proofs.size_of_lines.Goals as goal

pub returns-then-bytes-from : goal.returns-then-bytes-from
unfolding bytes_in
returns-then-bytes-from c =
    let l = c.loop in
    let e = ap bytes_in (first-end c.args.bytes.now c.args.count l.counter l.from c.if-bytes-from.true) in
    omega arith

pub overflow_add-size : goal.overflow_add-size
overflow_add-size c =
    let l = c.loop in
    let f = line-found c.args.bytes.now l.from c.line_at-line.result c.line_at-line.ensures l.invariant.1 in
    omega arith

pub overflow_add-from : goal.overflow_add-from
overflow_add-from c =
    let l = c.loop in
    let f = line-found c.args.bytes.now l.from c.line_at-line.result c.line_at-line.ensures l.invariant.1 in
    omega arith

pub loop-preserved : goal.loop-preserved
unfolding bytes_in
loop-preserved c =
    let l = c.loop in
    let f = line-found c.args.bytes.now l.from c.line_at-line.result c.line_at-line.ensures l.invariant.1 in
    let e = ap bytes_in (first-at c.args.bytes.now c.args.count l.counter l.from c.loop-test.true c.if-bytes-from.false) in
    rw f.next (omega arith, f.inside, omega arith)

pub returns : goal.returns
unfolding bytes_in
returns c =
    let l = c.loop in
    let e = ap bytes_in (first-none c.args.bytes.now c.args.count l.counter l.from c.loop-test.false) in
    omega arith
