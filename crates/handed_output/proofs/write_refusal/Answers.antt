-- What the call wrote lies in the buffer, and is handed over whole.
use Rattle.closing_lines.specs.Closing.{refusal_line}
use Rattle.handed_output.proofs.Handing.Laws.{hands-text}
use Rattle.handed_output.proofs.write_refusal.Goals as goal

pub returns : goal.returns
returns g c =
    let put = c.put_refusal-end in
    let w = put.ensures in
    let bytes = refusal_line c.args.refusal in
    (w, hands-text c.args.before c.hand_over-handed.result c.args.out.now put.new.out put.result bytes w c.hand_over-handed.ensures)
