-- The table's rows are written if there is place for them; a refusal leaves the words.
use Rattle.std.proofs.Common.{ap, ◌∙◌, List, ◌++◌, ◌*◌, drop, arith}
use Rattle.context.specs.Objects.{Object}
use Rattle.table_walk.proofs.Walk.Passed.{passes-from}
use Rattle.table_layout.proofs.OfLayout.Passed.{table-marks, starts-inside}
use Rattle.mark_reading.specs.Marks.{flat}
use Rattle.mark_reading.proofs.Marks.Laws.{rows-from}
use Rattle.table_marks.proofs.read_opened.Goals as goal

pub slice_bounds-read_rows-count : goal.slice_bounds-read_rows-count
slice_bounds-read_rows-count c = (starts-inside _ _ (c.requires _ c.in_ok-layout.was)).2

pub slice_bounds-read_rows-start : goal.slice_bounds-read_rows-start
slice_bounds-read_rows-start c = (starts-inside _ _ (c.requires _ c.in_ok-layout.was)).2

pub read_rows-requires : goal.read_rows-requires
read_rows-requires c =
    let m = table-marks _ _ (c.requires _ c.in_ok-layout.was) in
    (omega arith, m.0, passes-from _ _ _ m.2)

pub returns-clause-written : goal.returns-clause-written
returns-clause-written c =
    let a = c.args in
    let l = c.in_ok-layout.layout in
    c.read_rows.ensures ∙ ap (λ (os : List Object). flat os ++ drop (l.objects * 2) a.rows.now) (rows-from a.file.now l.marks l.objects)
