-- The type gives the buffer its length, and what is held is the output of every input that begins with what was read.
use Rattle.std.proofs.Common.{subst, arith}
use Rattle.table_layout.specs.Layout.{input_most}
use Rattle.handed_output.specs.Handing.{WritesIn}
use Rattle.standard_streams.proofs.Answers.Laws.{input-answered}
use Rattle.standard_streams.proofs.First.{first-bytes}
use Rattle.nearly_output.specs.Output.{nearly_output}
use Rattle.nearly_output.proofs.Output.Laws.{nearly-first}
use Rattle.nearly_answers.proofs.answer.Goals as goal

pub returns : goal.returns
returns g c =
    let a = c.args in
    let k = c.min-end in
    let w = c.list_file in
    input-answered nearly_output input_most nearly-first a.file.now a.out.now w.new.out a.size w.result c.told-file
    (subst (λ bs. WritesIn a.out.now w.new.out w.result (nearly_output bs))
    (first-bytes a.size k.result a.file.now (omega (arith, c.told-file, k.ensures))) w.ensures)
