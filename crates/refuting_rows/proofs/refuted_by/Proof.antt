-- The object refutes just if it refutes some part of the conclusion.
use mathlib.Core.Path.{◌≡◌, sym, ap, ◌∙◌}
use mathlib.Core.Bool.{not}
use lib.Dec.{eqb}
use borrow.Author.Rules.{rules}
use Rattle.implication.specs.Closure.{implication, in_force}
use Rattle.context.specs.Objects.{object}
use Rattle.context.specs.Parts.{refuted_part}
use Rattle.context.proofs.Parts.Laws.{part-refutes}
use Rattle.refuting_rows.proofs.refuted_by.Statement.{statement}
use Rattle.refuting_rows.proofs.refuted_by.Tie as tie

returns : tie.Need-returns
returns c =
    let a = c.args in
    let rs = in_force a.background.now a.list.now a.rules in
    let o = object a.yes a.no in
    let r = implication a.premise a.conclusion in
    let e : c.refuted_part.result ≡ refuted_part rs o r = c.refuted_part.ensures in
    ap (λ x. not (eqb x 0)) e ∙ sym (part-refutes rs o r)

pub refuted_by_spec : {M : Type 1} → statement M
refuted_by_spec = tie.close (tie.spec (λ c κs. search rules) returns)
