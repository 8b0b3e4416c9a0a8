-- The name's part lies inside the file.
use Rattle.table_names.proofs.Names.Laws.{object-span-inside}
use Rattle.table_names.proofs.object_name.Goals as goal

pub name_at-requires : goal.name_at-requires
name_at-requires c =
    let a = c.args in
    rw c.object_span.ensures (object-span-inside a.file.now a.layout a.number)
