-- How what is found follows from the checks and the current set.
use Rattle.std.proofs.Math.Path.{◌≡◌, sym, ap}
use Rattle.std.specs.Prelude.{refl, [], ℕ, Result, Ok, Err}
use Rattle.std.proofs.Common.{◌∙◌}
use Rattle.std.proofs.Math.Option.{Option, none, some}
use Rattle.session.specs.declared.Refusal.{Refusal}
use Rattle.attribute_set.specs.Sets.{full, without}
use Rattle.machine.specs.Checks.{State, first_failing, session_checks, Standing, whole, tight, open-question, standing, reach_of}
use Rattle.machine.proofs.Checks.Laws.{standing-cases}
use Rattle.standing.specs.Standings.{question_of, stood, found_after, found}
use Rattle.standing.specs.declared.Question.{Question}
use Rattle.standing.specs.declared.Standing.{Standing as Found}
use Rattle.standing.specs.declared.Standing.TheVariants.{Full, Tight, Open}

-- what is found, by how the current set stands
abbrev pub seen : State → Standing → Found
seen s x = elim x [ whole ↦ Full | tight ↦ Tight | open-question ↦ Open (question_of s) ]

module _ (s : State) where
  pub found-refused : (r : Refusal) → first_failing (session_checks s []) ≡ some r → Err r ≡ found s
  unfolding found
  found-refused r e = sym (ap (found_after s) e)

  module _ (e : first_failing (session_checks s []) ≡ none) where
    pub found-full : s.current ≡ full s.n → Ok Full ≡ found s
    unfolding found stood
    found-full h = standing-cases s (λ x. ◌≡◌ {A = Result Found Refusal} (Ok Full) (Ok (seen s x))) (λ f. refl) (λ n f. absurd (n h)) (λ n f. absurd (n h)) ∙ sym (ap (found_after s) e)

    pub found-tight : (s.current ≡ full s.n → ⊥) → reach_of s ≡ s.current → Ok Tight ≡ found s
    unfolding found stood
    found-tight n h = standing-cases s (λ x. ◌≡◌ {A = Result Found Refusal} (Ok Tight) (Ok (seen s x))) (λ f. absurd (n f)) (λ m f. refl) (λ m f. absurd (f h)) ∙ sym (ap (found_after s) e)

    pub found-open : (s.current ≡ full s.n → ⊥) → (reach_of s ≡ s.current → ⊥) → (c : ℕ) → c ≡ without (reach_of s) s.current
        → Ok (Open (record { premise = s.current; conclusion = c })) ≡ found s
    unfolding found stood
    found-open n h c is =
        ap (λ d. Ok (Open (record { premise = s.current; conclusion = d }))) is
        ∙ standing-cases s (λ x. ◌≡◌ {A = Result Found Refusal} (Ok (Open (question_of s))) (Ok (seen s x))) (λ f. absurd (n f)) (λ m f. absurd (h f)) (λ m f. refl)
        ∙ sym (ap (found_after s) e)

  stood-question : (q : Question) → Open q ≡ stood s → q ≡ question_of s
  unfolding stood
  stood-question q = go (standing s)
    where
      go : (x : Standing) → Open q ≡ seen s x → q ≡ question_of s
      go whole h = cc
      go tight h = cc
      go open-question h = cc

  -- a question that is found is the machine's, and checks 1 to 7 pass
  pub found-question : (q : Question) → Ok (Open q) ≡ found s → (q ≡ question_of s) × (first_failing (session_checks s []) ≡ none)
  unfolding found
  found-question q = go (first_failing (session_checks s []))
    where
      go : (v : Option Refusal) → Ok (Open q) ≡ found_after s v → (q ≡ question_of s) × (v ≡ none)
      go none h = let e : Open q ≡ stood s = cc in (stood-question q e, refl)
      go (some r) h = cc
