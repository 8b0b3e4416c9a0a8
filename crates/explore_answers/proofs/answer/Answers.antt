-- The type gives the buffer its length, and what is held is the output of every input that begins with what was read.
use Rattle.std.proofs.Common.{subst, arith}
use Rattle.table_layout.specs.Layout.{input_most}
use Rattle.transcript.specs.Output.{output}
use Rattle.transcript.proofs.Output.Longer.{output-first}
use Rattle.handed_output.specs.Handing.{WritesIn}
use Rattle.standard_streams.proofs.Answers.Laws.{input-answered}
use Rattle.standard_streams.proofs.First.{first-bytes}
use Rattle.explore_answers.proofs.answer.Goals as goal

pub returns : goal.returns
returns g c =
    let a = c.args in
    let k = c.min-end in
    let w = c.hold in
    input-answered output input_most output-first a.file.now a.out.now w.new.out a.size w.result c.told-file
    (subst (λ bs. WritesIn a.out.now w.new.out w.result (output bs))
    (first-bytes a.size k.result a.file.now (omega (arith, c.told-file, k.ensures))) w.ensures)
