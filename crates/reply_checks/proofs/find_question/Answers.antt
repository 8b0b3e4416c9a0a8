-- What was found decides: a refusal is that of checks 1 to 7, and where no question stands, check 8 fails.
use Rattle.std.specs.Prelude.{◌≡◌, refl, [], Ok}
use Rattle.std.proofs.Common.{sym, ap, ◌∙◌}
use Rattle.std.proofs.lemmas.Result.{err_from_is_err_and}
use Rattle.machine.specs.Checks.{first_failing}
use Rattle.machine.specs.Calls.{state_of}
use Rattle.standing.specs.declared.Question.{Question}
use Rattle.standing.specs.declared.Standing.{Standing}
use Rattle.standing.specs.declared.Standing.TheVariants.{Full, Tight, Open}
use Rattle.reply_checks.specs.Outcomes.{unasked}
use Rattle.reply_checks.proofs.Outcomes.Laws.{asking_from, found-standing}
use Rattle.reply_checks.proofs.find_question.Goals as goal

otherwise : (x : Standing) → ((q : Question) → x ≡ Open q → ⊥) → unasked ≡ asking_from [] (Ok x)
otherwise Full h = refl
otherwise Tight h = refl
otherwise (Open q) h = absurd (h q refl)

pub returns-in_err-standing : goal.returns-in_err-standing
returns-in_err-standing c =
    let a = c.args in
    let p = err_from_is_err_and c.from_residual.result c.from_residual.ensures.1 in
    rw (p.1, p.2) (ap (asking_from []) c.in_err-standing.ensures ∙ sym (found-standing (state_of a.session a.rows.now a.list.now a.background.now)))

pub returns-in_default : goal.returns-in_default
returns-in_default c =
    let a = c.args in
    let h =
    otherwise _ c.in_default.not-Open ∙ ap (asking_from []) c.in_ok-standing.ensures
    ∙ sym (found-standing (state_of a.session a.rows.now a.list.now a.background.now)) in
    cc

pub returns : goal.returns
unfolding first_failing
returns c =
    let a = c.args in
    ap (λ x. asking_from [] (Ok x)) (sym c.in-Open.is) ∙ ap (asking_from []) c.in_ok-standing.ensures
    ∙ sym (found-standing (state_of a.session a.rows.now a.list.now a.background.now))
