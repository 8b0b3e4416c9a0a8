-- The checks of the session of the rows alone, where the set is asked about, are these.
use Rattle.std.proofs.Common.{◌∙◌}
use Rattle.row_checks.proofs.Rows.Laws.{as-session-with}
use Rattle.row_checks.proofs.check_rows_with.Goals as goal

pub returns : goal.returns
returns c = c.check_session.ensures ∙ as-session-with _ _ _ _
