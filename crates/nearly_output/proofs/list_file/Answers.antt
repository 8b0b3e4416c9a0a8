-- A refusal is the file's; else the lines are those of the table found.
use Rattle.std.proofs.Common.{◌≡◌, refl, sym, ap, ◌∙◌, List, ℕ, ◌*◌, length}
use Rattle.std.proofs.Math.ListN.{replicate, length-replicate}
use Rattle.session.specs.Limits.{most_objects}
use Rattle.short_premises.specs.Premises.{premises}
use Rattle.nearly_lines.specs.Lines.{nearly_lines}
use Rattle.nearly_output.specs.Output.{percentage}
use Rattle.nearly_output.proofs.Output.Laws.{table-read, read-range, output-written}
use Rattle.nearly_output.proofs.list_file.Goals as goal

-- the words before the reading, all 0
abbrev row_words : List ℕ
row_words = replicate (most_objects * 2) 0

row-size : length row_words ≡ most_objects * 2
row-size = length-replicate {A = ℕ} (most_objects * 2) 0

pub write_lines-requires : goal.write_lines-requires
write_lines-requires g c =
    let file = c.args.file.now in
    let b = c.read_marks in
    let r = table-read file row_words b.new.rows b.result row-size b.ensures.answer b.ensures.written in
    read-range file b.new.rows c.in-Ok.layout b.result r c.in-Ok.is (b.auto.rows ∙ row-size)

pub returns-in-Err : goal.returns-in-Err
returns-in-Err g c =
    let a = c.args in
    let b = c.read_marks in
    let r = table-read a.file.now row_words b.new.rows b.result row-size b.ensures.answer b.ensures.written in
    let w = c.write_refusal in
    output-written a.file.now a.out.now w.new.out w.result _ _ (sym c.in-Err.is ∙ r.answer) refl w.ensures c.told-out

pub returns-in-Ok : goal.returns-in-Ok
returns-in-Ok g c =
    let a = c.args in
    let b = c.read_marks in
    let l = c.in-Ok.layout in
    let r = table-read a.file.now row_words b.new.rows b.result row-size b.ensures.answer b.ensures.written in
    let w = c.write_lines in
    output-written a.file.now a.out.now w.new.out w.result _ _ (sym c.in-Ok.is ∙ r.answer)
    (ap (λ os. nearly_lines l.attributes percentage os (premises l.attributes)) (r.rows l c.in-Ok.is)) w.ensures c.told-out
