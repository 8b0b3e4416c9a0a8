-- A refusal is the file's; else the interview is that of the table found, in the first of the words.
use Rattle.std.proofs.Common.{◌≡◌, sym, ◌∙◌, List, ℕ, ◌*◌, length, take, arith}
use Rattle.std.proofs.Math.ListN.{replicate, length-replicate}
use Rattle.session.specs.Limits.{most_objects, most_implications}
use Rattle.table_interview.specs.Places.{lent_of, places_for}
use Rattle.table_interview.proofs.Places.Laws.{table-read, read-holds, places-taken}
use Rattle.table_interview.proofs.Run.{output-written, table-written}
use Rattle.table_interview.proofs.hold.Goals as goal

-- the words before the interview, all 0
abbrev row_words : List ℕ
row_words = replicate (most_objects * 2) 0

abbrev list_words : List ℕ
list_words = replicate (most_implications * 2) 0

row-size : length row_words ≡ most_objects * 2
row-size = length-replicate {A = ℕ} (most_objects * 2) 0

list-size : length list_words ≡ most_implications * 2
list-size = length-replicate {A = ℕ} (most_implications * 2) 0

pub interview_table-requires : goal.interview_table-requires
interview_table-requires g c =
    let file = c.args.file.now in
    let b = c.read_complete in
    let r = table-read file row_words b.new.rows b.result row-size b.ensures.answer b.ensures.written in
    read-holds file b.new.rows c.in-Ok.layout b.result r c.in-Ok.is (b.auto.rows ∙ row-size)

pub returns-in-Err : goal.returns-in-Err
returns-in-Err g c =
    let a = c.args in
    let b = c.read_complete in
    let r = table-read a.file.now row_words b.new.rows b.result row-size b.ensures.answer b.ensures.written in
    let w = c.write_refusal in
    output-written (places_for a.row_places a.rule_places) a.file.now a.out.now w.new.out w.result _ (sym c.in-Err.is ∙ r.answer) w.ensures c.told-out

pub returns-in-Ok : goal.returns-in-Ok
returns-in-Ok g c =
    let a = c.args in
    let b = c.read_complete in
    let r = table-read a.file.now row_words b.new.rows b.result row-size b.ensures.answer b.ensures.written in
    let k = c.min-row_words in
    let j = c.min-list_words in
    let w = c.interview_table in
    table-written (lent_of (length (take (k.result * 2) row_words)) (length (take (j.result * 2) list_words))) (places_for a.row_places a.rule_places)
    a.file.now b.new.rows a.out.now w.new.out w.result b.result c.in-Ok.layout r c.in-Ok.is
    (places-taken a.row_places a.rule_places k.result j.result row_words list_words k.ensures j.ensures (omega (arith, row-size)) (omega (arith, list-size)))
    w.ensures c.told-out
