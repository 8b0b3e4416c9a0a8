-- The walk over the names decides, or what is behind it.
use Rattle.std.proofs.Common.{sym, ap, ◌∙◌, length, Err, arith}
use Rattle.std.proofs.lemmas.Result.{err_from_is_err_and}
use Rattle.row_checks.proofs.Rows.Laws.{rows_fit}
use Rattle.table_writing.specs.Writing.{is_failed}
use Rattle.table_writing.proofs.Writing.Laws.{name-refused, refuses}
use Rattle.table_writer.proofs.write_rows.Goals as goal

pub overflow_add-used : goal.overflow_add-used
overflow_add-used c = omega (arith, rows_fit c.args.n c.args.used c.args.rows.now c.requires)

pub write_named-requires : goal.write_named-requires
write_named-requires c = (c.requires, ap is_failed (sym c.in_ok-walk_lines.ensures))

pub returns-in_err-walk_lines : goal.returns-in_err-walk_lines
returns-in_err-walk_lines c =
    let a = c.args in
    let p = err_from_is_err_and c.from_residual.result c.from_residual.ensures.1 in
    refuses a.n a.used a.rows.now a.names.now a.out.now _ _ (p.1 ∙ ap Err p.2)
    (name-refused a.n a.used a.rows.now a.names.now (length a.out.now) c.requires _ (sym c.in_err-walk_lines.ensures))
