-- The lines that the counts call for are walked part after part, and where the parts begin is kept.
use Rattle.std.specs.Prelude.{◌≡◌, ℕ, ◌≤◌, List, length, replicate, Result}
use Rattle.std.proofs.Math.Path.{refl}
use Rattle.std.proofs.Common.{sym, ap, ◌∙◌, arith}
use Rattle.std.proofs.lemmas.Result.{err_from_is_err_and}
use Rattle.session.specs.declared.Refusal.{Refusal}
use Rattle.table_kinds.specs.declared.Kind.TheVariants.{Name, Marks}
use Rattle.line_walk.specs.Walk.{walk}
use Rattle.table_walk.specs.Walk.{walk_on, place_of, then_rest}
use Rattle.table_header.specs.Header.{object_count, attribute_count, header}
use Rattle.table_layout.specs.Layout.{most_bytes, to_attribute_names, to_marks, layout, opened_from, opened_of}
use Rattle.table_walk.proofs.Walk.Laws.{walk-then}
use Rattle.table_layout.proofs.OfLayout.Laws.{layout-same, opened-walked}
use Rattle.table_layout.proofs.open.Goals as goal

-- the walks, part after part, and what is kept of them
walked : (file : List ℕ) (o n x y z : ℕ) (a b m e w : Result ℕ Refusal) → length file ≤ most_bytes → o ≡ object_count file
    → n ≡ attribute_count file → a ≡ walk header file 0 → b ≡ walk_on a (replicate o Name) file → m ≡ walk_on b (replicate n Name) file
    → e ≡ walk_on m (replicate o (Marks n)) file → x ≡ place_of a → y ≡ place_of b → z ≡ place_of m → w ≡ then_rest file e
    → opened_from (layout o n x y z) w ≡ opened_of file
walked file o n x y z a b m e w h eo en ea eb em ee ex ey ez ew =
    let to-names = walk-then file header eb ea refl eo in
    let to-marks = walk-then file (to_attribute_names file) em to-names refl en in
    let to-end = walk-then file (to_marks file) ee to-marks (ap Marks en) eo in
    rw (layout-same file eo en (ex ∙ ap place_of ea) (ey ∙ ap place_of to-names) (ez ∙ ap place_of to-marks))
    (sym (opened-walked file h w (ew ∙ ap (then_rest file) to-end)))

pub returns-in_err-walk_rest : goal.returns-in_err-walk_rest
returns-in_err-walk_rest c =
    let p = err_from_is_err_and c.from_residual.result c.from_residual.ensures.1 in
    rw (p.1, p.2)
    (walked c.args.file.now _ _ _ _ _ _ _ _ _ _ (omega arith) c.object_count-objects.ensures c.attribute_count-attributes.ensures
    c.walk_header-to_object_names.ensures c.walk_lines-to_attribute_names.ensures c.walk_lines-to_marks.ensures
    c.walk_lines-to_end.ensures c.place_of.ensures c.place_of-2.ensures c.place_of-3.ensures c.in_err-walk_rest.ensures)

pub returns : goal.returns
returns c =
    walked c.args.file.now _ _ _ _ _ _ _ _ _ _ (omega arith) c.object_count-objects.ensures c.attribute_count-attributes.ensures
    c.walk_header-to_object_names.ensures c.walk_lines-to_attribute_names.ensures c.walk_lines-to_marks.ensures
    c.walk_lines-to_end.ensures c.place_of.ensures c.place_of-2.ensures c.place_of-3.ensures c.in_ok-walk_rest.ensures
