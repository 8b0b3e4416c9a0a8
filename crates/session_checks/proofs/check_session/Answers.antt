-- Each part of the checks decides where those before it pass.
use Rattle.std.specs.Prelude.{◌≡◌, Bool, true, false, List, [], ◌∷◌, ◌++◌, ℕ, take, drop}
use Rattle.std.proofs.Common.{sym, ap, ap₂, ◌∙◌}
use Rattle.std.proofs.Math.Option.{none, some}
use Rattle.std.proofs.lemmas.Result.{err_from_is_err_and}
use Rattle.session.specs.Refusals.{refusal}
use Rattle.theory.specs.Implications.{Implication}
use Rattle.implication.specs.Closure.{implication}
use Rattle.machine.specs.Checks.{State, Check, first_failing, session_checks}
use Rattle.machine.proofs.Checks.Laws.{passed, failing-first, failing-here, failing-later, failing-append, sizes-fit}
use Rattle.machine.specs.Calls.{state_of}
use Rattle.outside_check.specs.Outside.{Outside}
use Rattle.size_checks.specs.Verdicts.{verdict_of}
use Rattle.session_checks.specs.Checked.{first_of}
use Rattle.session_checks.proofs.Checked.Laws.{and-first, first-of}
use Rattle.session_checks.proofs.check_session.Goals as goal

-- checks that refuse nothing leave the verdict to those behind them
behind : (cs ds : List Check) → none ≡ first_failing cs → first_failing (cs ++ ds) ≡ first_failing ds
behind cs ds e = failing-append cs ds (passed cs (sym e))

-- where the sizes pass, check 4 fails, or leaves the verdict to the rest
module _ (s : State) (q : Implication ℕ) (small : none ≡ first_failing (take 3 (session_checks s (q ∷ [])))) {b : Bool} (test : Outside s q b) where
  outside-fails : b ≡ true → some (refusal 4 0) ≡ first_failing (session_checks s (q ∷ []))
  unfolding session_checks
  outside-fails e =
      let cs = session_checks s (q ∷ []) in
      sym (behind (take 3 cs) (drop 3 cs) small ∙ failing-here _ _ (sym (test (sizes-fit s (q ∷ []) (sym small))) ∙ e))

  inside-passes : b ≡ false → first_failing (session_checks s (q ∷ [])) ≡ first_failing (drop 4 (session_checks s (q ∷ [])))
  unfolding session_checks
  inside-passes e =
      let cs = session_checks s (q ∷ []) in
      behind (take 3 cs) (drop 3 cs) small ∙ failing-later _ _ (sym (test (sizes-fit s (q ∷ []) (sym small))) ∙ e)

pub returns-in_err-check_sizes : goal.returns-in_err-check_sizes
unfolding session_checks
returns-in_err-check_sizes c =
    let a = c.args in
    let cs = session_checks (state_of a.session a.rows.now a.list.now a.background.now) (implication a.premise a.conclusion ∷ []) in
    let p = err_from_is_err_and c.from_residual.result c.from_residual.ensures.1 in
    rw (p.1, p.2) (sym (failing-first (take 3 cs) (drop 3 cs) _ (sym (c.in_err-check_sizes.ensures (implication a.premise a.conclusion ∷ [])))))

pub returns-then-check_outside : goal.returns-then-check_outside
returns-then-check_outside c =
    let a = c.args in
    let q = implication a.premise a.conclusion in
    c.refused.ensures ∙ outside-fails (state_of a.session a.rows.now a.list.now a.background.now) q (c.in_ok-check_sizes.ensures (q ∷ [])) c.check_outside.ensures c.if-check_outside.true

pub returns : goal.returns
unfolding session_checks
returns c =
    let a = c.args in
    let q = implication a.premise a.conclusion in
    let s = state_of a.session a.rows.now a.list.now a.background.now in
    let cs = session_checks s (q ∷ []) in
    ap verdict_of c.and.ensures ∙ and-first _ _ ∙ ap₂ first_of (c.check_marks-marked.ensures (q ∷ [])) c.check_closed-closed.ensures
    ∙ first-of (take 2 (drop 4 cs)) (drop 6 cs)
    ∙ sym (inside-passes s q (c.in_ok-check_sizes.ensures (q ∷ [])) c.check_outside.ensures c.if-check_outside.false)
