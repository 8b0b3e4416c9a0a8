-- Nothing is said of a table.
use Rattle.std.proofs.Common.{ap}
use Rattle.text.proofs.Page.Laws.{text-end}
use Rattle.refusal_reports.specs.Reports.{explanation_of}
use Rattle.refusal_reports.proofs.put_why.Goals as goal

pub returns-in-Ok : goal.returns-in-Ok
returns-in-Ok c = text-end _ _ (ap (explanation_of c.args.file.now) c.in-Ok.is)
