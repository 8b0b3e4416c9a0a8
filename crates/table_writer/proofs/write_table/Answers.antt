-- The checks of the rows decide, or what is behind them.
use Rattle.std.proofs.Common.{sym, ap, ◌∙◌, length, Err}
use Rattle.std.proofs.lemmas.Result.{err_from_is_err_and}
use Rattle.table_writing.proofs.Writing.Laws.{rows-refused, refuses}
use Rattle.table_writer.proofs.write_table.Goals as goal

pub write_rows-requires : goal.write_rows-requires
write_rows-requires c = sym c.in_ok-check_rows.ensures

pub returns-in_err-check_rows : goal.returns-in_err-check_rows
returns-in_err-check_rows c =
    let a = c.args in
    let p = err_from_is_err_and c.from_residual.result c.from_residual.ensures.1 in
    refuses a.n a.used a.rows.now a.names.now a.out.now _ _ (p.1 ∙ ap Err p.2)
    (rows-refused a.n a.used a.rows.now a.names.now (length a.out.now) _ (sym c.in_err-check_rows.ensures))
