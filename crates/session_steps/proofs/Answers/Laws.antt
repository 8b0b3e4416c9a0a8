-- What a step of the plain machine is, by what its checks found, in the shape in which the code finds it out.
use Rattle.std.specs.Prelude.{◌≡◌, refl, [], ℕ, ◌≤◌, min, Result, Ok, Err}
use Rattle.std.proofs.Common.{sym, ap, ◌∙◌, arith}
use Rattle.std.proofs.Math.Option.{Option, none, some}
use Rattle.session.specs.declared.Refusal.{Refusal}
use Rattle.implication.specs.Closure.{implication}
use Rattle.next_set.specs.Next.{next}
use Rattle.machine.specs.Checks.{State, force, first_failing, session_checks, question, Standing, whole, tight, open-question, standing}
use Rattle.machine.proofs.Checks.Laws.{checked-small}
use Rattle.machine.specs.Machine.{step, finished, moved, asked, refused, Turn, turn, move_to, after_move, perform_step, performed, checks_of, perform}
use Rattle.machine.proofs.Machine.Laws.{perform-refused, perform-accepted}
use Rattle.standing.specs.declared.Standing.{Standing as Found}
use Rattle.standing.specs.declared.Standing.TheVariants.{Full, Tight, Open}
use Rattle.standing.specs.Standings.{question_of, stood, found_after, found}

-- what a step does, by what was found
abbrev pub step_from : State → Result Found Refusal → Turn
step_from s (Err r) = turn (refused r) s
step_from s (Ok Full) = turn finished s
step_from s (Ok Tight) = turn moved (after_move s)
step_from s (Ok (Open q)) = turn (asked (implication q.premise q.conclusion)) s

stood-step : (s : State) → perform_step s ≡ step_from s (Ok (stood s))
unfolding perform_step stood
stood-step s = go (standing s)
  where
    go : (x : Standing)
        → ◌≡◌ {A = Turn} (elim x [
          | whole ↦ turn finished s
          | tight ↦ turn moved (after_move s)
          | open-question ↦ turn (asked (question s)) s
        ])
        (step_from s (Ok (elim x [ whole ↦ Full | tight ↦ Tight | open-question ↦ Open (question_of s) ])))
    go whole = refl
    go tight = refl
    go open-question = refl

pub step-found : (s : State) → perform s step ≡ step_from s (found s)
unfolding checks_of performed found
step-found s = go (first_failing (session_checks s [])) refl
  where
    go : (v : Option Refusal) → first_failing (session_checks s []) ≡ v → perform s step ≡ step_from s (found_after s (first_failing (session_checks s [])))
    go none e = perform-accepted s step e ∙ stood-step s ∙ sym (ap (λ v. step_from s (found_after s v)) e)
    go (some r) e = perform-refused s step r e ∙ sym (ap (λ v. step_from s (found_after s v)) e)

-- so it is by what is known to be found
pub step-refused : (s : State) {r : Refusal} → Err r ≡ found s → perform s step ≡ turn (refused r) s
step-refused s f = step-found s ∙ ap (step_from s) (sym f)

pub step-stood : (s : State) {x y : Found} → Ok x ≡ found s → x ≡ y → perform s step ≡ step_from s (Ok y)
step-stood s f e = step-found s ∙ ap (step_from s) (sym f ∙ ap Ok e)

-- a set is found tight only where checks 1 to 7 pass, so that n is at most 64
pub tight-small : (s : State) → Ok Tight ≡ found s → s.n ≤ 64
unfolding found
tight-small s = go (first_failing (session_checks s [])) refl
  where
    go : (v : Option Refusal) → first_failing (session_checks s []) ≡ v → Ok Tight ≡ found_after s v → s.n ≤ 64
    go none e h = (checked-small s [] e).0
    go (some r) e h = absurd (let z : ◌≡◌ {A = ℕ} 0 1 = cc in omega arith)

-- so the step moves to the next set, with n cut to 64
pub step-moved : (s : State) {x : Found} {p : ℕ} → Ok x ≡ found s → x ≡ Tight → p ≡ next (force s) (min s.n 64) s.current
    → perform s step ≡ turn moved (move_to s p)
step-moved s f e h =
    let small = tight-small s (ap Ok (sym e) ∙ f) in
    let m : min s.n 64 ≡ s.n = omega arith in
    step-stood s f e ∙ ap (λ p. turn moved (move_to s p)) (sym (h ∙ ap (λ (k : ℕ). next (force s) k s.current) m))
