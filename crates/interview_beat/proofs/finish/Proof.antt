-- The list, then the totals: what is counted is what the lists have.
use mathlib.Core.Path.{ap, ◌∙◌}
use Rattle.text.specs.Page.{page, text}
use Rattle.text.proofs.Page.Laws.{text-on}
use Rattle.interview_beat.proofs.Beat.Laws.{closing-is}
use borrow.Author.Rules.{rules}
use Rattle.interview_beat.proofs.finish.Statement.{statement}
use Rattle.interview_beat.proofs.finish.Tie as tie

returns : tie.Need-returns
returns c =
    let a = c.args in
    let p = page a.out.now a.at in
    λ h. text-on p _ _ c.put_list-end.ensures c.put_end.ensures
    ∙ ap (text p) (closing-is a.interview a.rows.now a.list.now h)

pub finish_spec : {M : Type 1} → statement M
finish_spec =
    tie.close
    (tie.spec
    (λ c κs. search rules)
    (λ c κs. search rules)
    (λ c. search rules)
    returns)
