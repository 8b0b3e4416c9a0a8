-- A refusal is that of checks 1 to 7; else the set is compared with M, and then its reach with it, as in the definition.
use Rattle.std.specs.Prelude.{◌≡◌, [], ℕ, min}
use Rattle.std.proofs.Common.{sym, ap, ◌∙◌, arith}
use Rattle.std.proofs.Math.Option.{none}
use Rattle.std.proofs.lemmas.Result.{err_from_is_err_and}
use Rattle.attribute_set.specs.Sets.{full, without}
use Rattle.reach.specs.Reach.{reach}
use Rattle.machine.specs.Checks.{State, first_failing, session_checks, reach_of, force}
use Rattle.machine.proofs.Checks.Laws.{unasked, checked-small}
use Rattle.machine.specs.Calls.{state_of}
use Rattle.standing.proofs.Standings.Laws.{found-refused, found-full, found-tight, found-open}
use Rattle.standing.proofs.find_standing.Goals as goal

-- where the checks pass, M and the reach are as the code has them
module _ (s : State) (clear : first_failing (session_checks s []) ≡ none) where
  whole : {m : ℕ} → m ≡ full (min s.n 64) → m ≡ full s.n
  whole e = let small = (checked-small s [] clear).0 in e ∙ ap full (omega (arith, small))

  reached : {x : ℕ} → x ≡ reach (force s) (min s.n 64) s.rows s.current → x ≡ reach_of s
  reached e = let small = (checked-small s [] clear).0 in e ∙ ap (λ k. reach (force s) k s.rows s.current) (omega (arith, small))

pub returns-in_err-check_session : goal.returns-in_err-check_session
returns-in_err-check_session c =
    let a = c.args in
    let s = state_of a.session a.rows.now a.list.now a.background.now in
    let p = err_from_is_err_and c.from_residual.result c.from_residual.ensures.1 in
    rw (p.1, p.2) (found-refused s _ (sym (c.in_err-check_session.ensures ∙ unasked s)))

pub returns-then-current-full_set : goal.returns-then-current-full_set
returns-then-current-full_set c =
    let a = c.args in
    let s = state_of a.session a.rows.now a.list.now a.background.now in
    let clear = sym (c.in_ok-check_session.ensures ∙ unasked s) in
    found-full s clear (c.if-current-full_set.true ∙ whole s clear c.full_set.ensures)

pub returns-then-x-current : goal.returns-then-x-current
returns-then-x-current c =
    let a = c.args in
    let s = state_of a.session a.rows.now a.list.now a.background.now in
    let clear = sym (c.in_ok-check_session.ensures ∙ unasked s) in
    found-tight s clear (λ e. c.if-current-full_set.false (e ∙ sym (whole s clear c.full_set.ensures))) (sym (reached s clear c.reach_of-x.ensures) ∙ c.if-x-current.true)

pub returns : goal.returns
returns c =
    let a = c.args in
    let s = state_of a.session a.rows.now a.list.now a.background.now in
    let clear = sym (c.in_ok-check_session.ensures ∙ unasked s) in
    let e = reached s clear c.reach_of-x.ensures in
    found-open s clear (λ e. c.if-current-full_set.false (e ∙ sym (whole s clear c.full_set.ensures))) (λ h. c.if-x-current.false (e ∙ h)) _
    (c.difference.ensures ∙ ap (λ x. without x s.current) e)
