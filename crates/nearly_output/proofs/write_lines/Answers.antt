-- What the lines' call wrote lies in the buffer, and is handed over whole.
use Rattle.context.specs.Objects.{objects_of}
use Rattle.handed_output.proofs.Handing.Laws.{hands-text}
use Rattle.short_premises.specs.Premises.{premises}
use Rattle.nearly_lines.specs.Lines.{nearly_lines}
use Rattle.nearly_output.specs.Output.{percentage}
use Rattle.nearly_output.proofs.write_lines.Goals as goal

pub returns : goal.returns
returns g c =
    let a = c.args in
    let put = c.put_lines-end in
    let w = put.ensures.in_range c.requires in
    let bytes = nearly_lines a.n percentage (objects_of a.used a.rows.now) (premises a.n) in
    (w, hands-text a.before c.hand_over-handed.result a.out.now put.new.out put.result bytes w c.hand_over-handed.ensures)
