-- The name's part lies inside the file.
use Rattle.table_names.proofs.Names.Laws.{attribute-span-inside}
use Rattle.table_names.proofs.attribute_name.Goals as goal

pub name_at-requires : goal.name_at-requires
name_at-requires c =
    let a = c.args in
    rw c.attribute_span.ensures (attribute-span-inside a.file.now a.layout a.number)
