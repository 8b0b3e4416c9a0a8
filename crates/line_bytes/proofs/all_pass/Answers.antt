-- The test of the line is std's test of its bytes.
use Rattle.std.proofs.Common.{◌∙◌, rules}
use Rattle.std.proofs.lemmas.Iterator.{YieldsList-from_slice}
use Rattle.std.proofs.lemmas.Iterator.Search.{all_from_yields_List}
use Rattle.table_bytes.specs.Bytes.{passes}
use Rattle.line_bytes.proofs.Everywhere.Laws.{everywhere-all}
use Rattle.line_bytes.proofs.all_pass.Goals as goal

pub returns : goal.returns
returns c =
    let a = c.args in
    all_from_yields_List (passes a.kind) _ _ _ c.all.ensures.ran (YieldsList-from_slice a.bytes.now cc) (λ x b q k. search rules)
    ∙ everywhere-all (passes a.kind) a.bytes.now
