-- The interview ends for every complete table: the last beat is among the first `enough s`, so that their number is never what
-- ends the output.
use Rattle.std.proofs.Math.Path.{◌≡◌}
use Rattle.std.specs.Prelude.{refl, Bool, List, [], ◌∷◌, ◌++◌, ℕ, zero, suc, ◌+◌, ◌*◌, ◌-◌, ◌/◌, ◌^◌, ◌<◌, length, get_or, ltb}
use Rattle.std.proofs.Common.{ap, ◌∙◌, subst, mul-lt-mul_of_pos_right, mul-le-mul_right, arith, length-append}
use Rattle.std.proofs.Math.Bool.{true, false}
use Rattle.theory.specs.Implications.{Implication}
use Rattle.attribute_set.specs.Sets.{full}
use Rattle.attribute_set.proofs.Lectic.Rank.{rank, rank_lt, rank-before}
use Rattle.next_set.proofs.Next.Laws.{next-is}
use Rattle.context.specs.Objects.{Object, object, first_written}
use Rattle.machine.specs.Checks.{Lent, State, force, question, with_question}
use Rattle.machine.proofs.Checks.Laws.{no_both}
use Rattle.machine.specs.Machine.{step, accept, reject, Turn, after_move, after_yes, after_filing, perform_step, performed, checks_of, perform, opened, opening}
use Rattle.machine.proofs.Machine.Laws.{perform-cases, perform-accepted, step-cases}
use Rattle.demands.proofs.Facts.Laws.{checks-filing}
use Rattle.demands.proofs.Demand3.Invariant.{Reached, perform-reached, opened-reached}
use Rattle.transcript.specs.Output.{Beat, more, last, replied, answered, stepped, beat, beats, last_within, enough}
use Rattle.output_lines.specs.Lines.{yes_line, no_line}

-- how far the interview can still go: the later sets, each with all places for rows, and the places that are free now
unfoldable pub measure : State → ℕ
measure s = (2 ^ s.n - rank s.n s.current) * suc (s.lent.rows / 2) + (s.lent.rows / 2 - length s.rows)

-- a set that comes later leaves less to go
later-less : (a b r r' p : ℕ) → r < r' → r' < a → (a - r') * suc p + b < (a - r) * suc p + b
later-less a b r r' p h k =
    let l : a - r' < a - r = omega arith in
    let z : 0 < suc p = omega arith in
    omega (arith, mul-lt-mul_of_pos_right l z)

-- a beat that goes on keeps the invariant and comes nearer to the end
pub record Falls (s s' : State) : Type 0 where
  pub reached : Reached s'
  pub less : measure s' < measure s

module _ (s : State) (h : Reached s) (open' : s.current ≡ full s.n → ⊥) where
  move-falls : (c : Reached (after_move s)) → Falls s (after_move s)
  unfolding measure
  move-falls c =
      let t = next-is (force s) s.n s.current h.over h.explored.here.base.inside open' in
      record {
        reached = c;
        less = later-less (2 ^ s.n) _ _ _ (s.lent.rows / 2) (rank-before s.n t.later t.inside) (rank_lt s.n _);
      }

  yes-falls : Reached (after_yes s) → Falls s (after_yes s)
  unfolding measure
  yes-falls c =
      let t = next-is (with_question s) s.n s.current c.over h.explored.here.base.inside open' in
      record {
        reached = c;
        less = later-less (2 ^ s.n) _ _ _ (s.lent.rows / 2) (rank-before s.n t.later t.inside) (rank_lt s.n _);
      }

no-falls : (s : State) (o : Object) → length s.rows < s.lent.rows / 2 → Reached (after_filing s o) → Falls s (after_filing s o)
unfolding measure
no-falls s o l c = record {
  reached = c;
  less = omega (arith, length-append s.rows (o ∷ []));
}

not_more : (line line' : List ℕ) (s' : State) (c' : ℕ) → last line ≡ more line' s' c' → ⊥
not_more line line' s' c' e = let z : ◌≡◌ {A = ℕ} 0 1 = cc in omega arith

module _ (table : List Object) (s : State) (changes : ℕ) (h : Reached s) (line : List ℕ) (s' : State) (c' : ℕ) where
  goes_to : (x : State) (l : List ℕ) (c : ℕ) → Falls s x → more l x c ≡ more line s' c' → Falls s s'
  goes_to x l c f e = let q : x ≡ s' = cc in subst (λ y. Falls s y) q f

  no-reply : (o : Object) (l : List ℕ) (c : ℕ) → replied l c (perform s (reject o)).answer (perform s (reject o)).after ≡ more line s' c' → Falls s s'
  unfolding performed checks_of
  no-reply o l c = perform-cases s (reject o) (λ t. replied l c t.answer t.after ≡ more line s' c' → Falls s s')
      (λ e. goes_to (after_filing s o) l c (no-falls s o (checks-filing s o (no_both s o e).1).place
      (subst (λ (t : Turn). Reached t.after) (perform-accepted s (reject o) e) (perform-reached s (reject o) h))))
      (λ r e k. absurd (not_more _ _ _ _ k))

  yes-reply : (s.current ≡ full s.n → ⊥) → (l : List ℕ) (c : ℕ) → replied l c (perform s accept).answer (perform s accept).after ≡ more line s' c' → Falls s s'
  unfolding performed
  yes-reply ne l c = perform-cases s accept (λ t. replied l c t.answer t.after ≡ more line s' c' → Falls s s')
      (λ e. goes_to (after_yes s) l c (yes-falls s h ne (subst (λ (t : Turn). Reached t.after) (perform-accepted s accept e) (perform-reached s accept h))))
      (λ r e k. absurd (not_more _ _ _ _ k))

  answer-falls : (s.current ≡ full s.n → ⊥) → (q : Implication ℕ) → answered table s changes q ≡ more line s' c' → Falls s s'
  unfolding answered
  answer-falls ne q = go (ltb (first_written table q) (length table))
    where
      go : (b : Bool)
          → ◌≡◌ {A = Beat} (elim b [
            | true ↦
                let row = first_written table q in
                let t = perform s (reject (get_or table row (object 0 0))) in
                replied (no_line s.n q (row + 1)) changes t.answer t.after
            | false ↦ let t = perform s accept in replied (yes_line s.n q) (suc changes) t.answer t.after
          ]) (more line s' c') → Falls s s'
      go true e = no-reply _ _ _ e
      go false e = yes-reply ne _ _ e

  pub beat-falls : beat table s changes ≡ more line s' c' → Falls s s'
  unfolding beat performed checks_of
  beat-falls = perform-cases s step (λ t. stepped table s changes t.answer t.after ≡ more line s' c' → Falls s s')
      (λ e. step-cases s (λ t. perform_step s ≡ t → stepped table s changes t.answer t.after ≡ more line s' c' → Falls s s')
      (λ f p k. absurd (not_more _ _ _ _ k))
      (λ ne f p. goes_to _ _ _ (move-falls s h ne (subst (λ (t : Turn). Reached t.after) (perform-accepted s step e ∙ p) (perform-reached s step h))))
      (λ ne f p. answer-falls ne (question s)) refl)
      (λ r e k. absurd (not_more _ _ _ _ k))

-- with more beats than there is to go, the last is among them
ends-within : (k : ℕ) (table : List Object) (s : State) (changes : ℕ) → Reached s → measure s < k → last_within k table s changes ≡ true
unfolding last_within
ends-within zero table s changes h l = absurd (omega arith)
ends-within (suc k) table s changes h l = go (beat table s changes) refl (λ s' c' r m. ends-within k table s' c' r m)
  where
    go : (b : Beat) → beat table s changes ≡ b → ((s' : State) (c' : ℕ) → Reached s' → measure s' < k → last_within k table s' c' ≡ true)
        → elim b as (λ x. Bool) [ more line s' c' ↦ last_within k table s' c' | last line ↦ true ] ≡ true
    go (more line s' c') e ih =
        let f = beat-falls table s changes h line s' c' e in
        ih s' c' f.reached (omega (arith, f.less))
    go (last line) e ih = refl

-- and more of them write the same
pub beats-same : (k j : ℕ) (table : List Object) (s : State) (changes : ℕ) → Reached s → measure s < k → measure s < j → beats k table s changes ≡ beats j table s changes
unfolding beats
beats-same zero j table s changes h l m = absurd (omega arith)
beats-same (suc k) zero table s changes h l m = absurd (omega arith)
beats-same (suc k) (suc j) table s changes h l m = go (beat table s changes) refl (λ s' c' r f. beats-same k j table s' c' r (omega (arith, f)) (omega (arith, f)))
  where
    go : (b : Beat) → beat table s changes ≡ b → ((s' : State) (c' : ℕ) → Reached s' → measure s' < measure s → beats k table s' c' ≡ beats j table s' c')
        → ◌≡◌ {A = List ℕ} (elim b [ more line s' c' ↦ line ++ beats k table s' c' | last line ↦ line ])
        (elim b [ more line s' c' ↦ line ++ beats j table s' c' | last line ↦ line ])
    go (more line s' c') e ih =
        let f = beat-falls table s changes h line s' c' e in
        ap (λ l. line ++ l) (ih s' c' f.reached f.less)
    go (last line) e ih = refl

pub measure-enough : (s : State) → measure s < enough s
unfolding measure
measure-enough s = omega (arith, mul-le-mul_right {m = 2 ^ s.n - rank s.n s.current} {n = 2 ^ s.n} (suc (s.lent.rows / 2)) (omega arith))

-- the interview of a table ends in its last beat
pub interview-ends : (table : List Object) (n : ℕ) (lent : Lent) (s : State) → opening n lent [] [] ≡ opened s → last_within (enough s) table s 0 ≡ true
interview-ends table n lent s e = ends-within (enough s) table s 0 (opened-reached n lent [] [] s e) (measure-enough s)
