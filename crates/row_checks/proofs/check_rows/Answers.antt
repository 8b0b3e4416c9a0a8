-- Where the empty set is asked about, the checks are these.
use Rattle.std.proofs.Common.{◌∙◌}
use Rattle.row_checks.proofs.Rows.Laws.{none-asked}
use Rattle.row_checks.proofs.check_rows.Goals as goal

pub returns : goal.returns
returns c = c.check_rows_with.ensures ∙ none-asked _ _ _
