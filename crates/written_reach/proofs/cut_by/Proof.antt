-- The object marks the set yes, and what it marks no is taken away, or it does not, and x stays.
use mathlib.Core.Path.{sym, ◌∙◌}
use borrow.Author.Rules.{rules}
use Rattle.attribute_set.proofs.Sets.Laws.{and→sub, sub→and}
use Rattle.context.specs.Objects.{object}
use Rattle.written_marks.proofs.Written.Laws.{written-taken, written-left}
use Rattle.written_reach.proofs.cut_by.Statement.{statement}
use Rattle.written_reach.proofs.cut_by.Tie as tie

returns : tie.Need-returns-then-set-yes
returns c =
    let a = c.args in
    c.difference.ensures ∙ sym (written-taken a.set (object a.yes a.no) a.x (and→sub _ _ c.if-set-yes.true))

returns-2 : tie.Need-returns-else-set-yes
returns-2 c =
    let a = c.args in
    sym (written-left a.set (object a.yes a.no) a.x (λ h. c.if-set-yes.false (sub→and h)))

pub cut_by_spec : {M : Type 1} → statement M
cut_by_spec = tie.close (tie.spec (λ c κs. search rules) returns returns-2)
