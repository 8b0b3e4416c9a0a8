-- Each line is walked from where the line before it ends; the first that is refused is the header's.
use Rattle.std.proofs.Common.{sym, ◌∙◌}
use Rattle.std.proofs.lemmas.Result.{err_from_is_err_and}
use Rattle.table_kinds.specs.declared.Kind.TheVariants.{Letter, Title, Objects, Attributes}
use Rattle.table_walk.proofs.Walk.Laws.{walk-first}
use Rattle.table_header.proofs.walk_header.Goals as goal

pub returns-in_err-title_at : goal.returns-in_err-title_at
returns-in_err-title_at c =
    let f = c.args.file.now in
    let p = err_from_is_err_and c.from_residual.result c.from_residual.ensures.1 in
    rw (p.1, p.2) (sym (walk-first f Letter _ _ _ c.in_err-title_at.ensures))

pub returns-in_err-objects_at : goal.returns-in_err-objects_at
returns-in_err-objects_at c =
    let f = c.args.file.now in
    let p = err_from_is_err_and c.from_residual-in_err-objects_at.result c.from_residual-in_err-objects_at.ensures.1 in
    rw (p.1, p.2) (sym (walk-first f Letter _ _ _ c.in_ok-title_at.ensures ∙ walk-first f Title _ _ _ c.in_err-objects_at.ensures))

pub returns-in_err-attributes_at : goal.returns-in_err-attributes_at
returns-in_err-attributes_at c =
    let f = c.args.file.now in
    let p = err_from_is_err_and c.from_residual-in_err-attributes_at.result c.from_residual-in_err-attributes_at.ensures.1 in
    rw (p.1, p.2)
    (sym (walk-first f Letter _ _ _ c.in_ok-title_at.ensures ∙ walk-first f Title _ _ _ c.in_ok-objects_at.ensures
    ∙ walk-first f Objects _ _ _ c.in_err-attributes_at.ensures))

pub returns-in_err-blank_at : goal.returns-in_err-blank_at
returns-in_err-blank_at c =
    let f = c.args.file.now in
    let p = err_from_is_err_and c.from_residual-in_err-blank_at.result c.from_residual-in_err-blank_at.ensures.1 in
    rw (p.1, p.2)
    (sym (walk-first f Letter _ _ _ c.in_ok-title_at.ensures ∙ walk-first f Title _ _ _ c.in_ok-objects_at.ensures
    ∙ walk-first f Objects _ _ _ c.in_ok-attributes_at.ensures ∙ walk-first f Attributes _ _ _ c.in_err-blank_at.ensures))

pub returns : goal.returns
returns c =
    let f = c.args.file.now in
    c.walk_line-5.ensures
    ∙ sym (walk-first f Letter _ _ _ c.in_ok-title_at.ensures ∙ walk-first f Title _ _ _ c.in_ok-objects_at.ensures
    ∙ walk-first f Objects _ _ _ c.in_ok-attributes_at.ensures ∙ walk-first f Attributes _ _ _ c.in_ok-blank_at.ensures)
