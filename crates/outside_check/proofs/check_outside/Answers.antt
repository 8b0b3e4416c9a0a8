-- The five tests are the parts of the definition, in its order.
use Rattle.std.proofs.Common.{◌≡◌, Bool, true, false, not, ◌||◌, [], ◌∷◌, ◌/◌, length, refl, sym, ap, ◌∙◌, arith}
use Rattle.attribute_set.specs.Sets.{full, inside}
use Rattle.implication.specs.Pairs.{pairs}
use Rattle.implication.proofs.Pairs.Laws.{length_pairs}
use Rattle.implication.specs.Closure.{implication}
use Rattle.context.specs.Places.{anywhere}
use Rattle.context.specs.Objects.{object}
use Rattle.machine.specs.Checks.{strange, outside_m}
use Rattle.machine.specs.Calls.{state_of}
use Rattle.outside_check.specs.Outside.{Fits}
use Rattle.outside_check.proofs.Outside.Laws.{outside-parts}
use Rattle.outside_check.proofs.check_outside.Goals as goal
use Rattle.outside_check.proofs.check_outside.Goals.{then-strange_among, else-strange_among, then-strange_among-2, else-strange_among-2, then-strange_among-3, else-strange_among-3, Joined-strange_among-3}

or-regroup : (a b c d e : Bool) → ((((a || b) || c) || d) || e) ≡ (a || (b || (c || (d || e))))
or-regroup true b c d e = refl
or-regroup false true c d e = refl
or-regroup false false true d e = refl
or-regroup false false false d e = refl

-- what the tests before the last one give, and what the definition says
tested : (c : Joined-strange_among-3) → let a = c.args in Fits (state_of a.session a.rows.now a.list.now a.background.now)
    → outside_m (state_of a.session a.rows.now a.list.now a.background.now) (implication a.premise a.conclusion ∷ [])
    ≡ (c.if-strange_among-3.value || not (inside a.session.current c.full_set-m.result))
tested c fits =
    let a = c.args in
    let m = c.full_set-m.result in
    let used = anywhere (λ (b : Bool). b) (pairs (strange m) c.min-used.result a.rows.now) in
    let ground = anywhere (λ (b : Bool). b) (pairs (strange m) (length a.background.now / 2) a.background.now) in
    let rules = anywhere (λ (b : Bool). b) (pairs (strange m) c.min-rules.result a.list.now) in
    let first : c.if-strange_among.value ≡ (used || ground) = elim c.if-strange_among.branch [
      | then-strange_among w ↦ w.value-is ∙ w.if-strange_among.true ∙ ap (λ b. b || ground) w.if-strange_among.ensures
      | else-strange_among w ↦ w.value-is ∙ w.strange_among-else-strange_among.ensures ∙ ap (λ b. b || ground) w.if-strange_among.ensures
    ] in
    let second : c.if-strange_among-2.value ≡ (c.if-strange_among.value || rules) = elim c.if-strange_among-2.branch [
      | then-strange_among-2 w ↦ w.value-is ∙ w.if-strange_among-2.true ∙ ap (λ b. b || rules) (sym w.if-strange_among-2.true)
      | else-strange_among-2 w ↦ w.value-is ∙ w.strange_among-else-strange_among-2.ensures ∙ ap (λ b. b || rules) (sym w.if-strange_among-2.false)
    ] in
    let third : c.if-strange_among-3.value ≡ (c.if-strange_among-2.value || strange m a.premise a.conclusion) = elim c.if-strange_among-3.branch [
      | then-strange_among-3 w ↦ w.value-is ∙ w.if-strange_among-3.true ∙ ap (λ b. b || strange m a.premise a.conclusion) (sym w.if-strange_among-3.true)
      | else-strange_among-3 w ↦ w.value-is ∙ w.strange_pair.ensures ∙ ap (λ b. b || strange m a.premise a.conclusion) (sym w.if-strange_among-3.false)
    ] in
    let last = not (inside a.session.current m) in
    outside-parts a.session a.rows.now a.list.now a.background.now a.premise a.conclusion _ _ _
    (c.full_set-m.ensures ∙ ap full (omega (arith, fits.0)))
    (omega (arith, fits.1, length_pairs object a.session.rows a.rows.now, c.min-used.ensures))
    (omega (arith, fits.2, length_pairs implication a.session.rules a.list.now, c.min-rules.ensures))
    ∙ sym (or-regroup used ground rules (strange m a.premise a.conclusion) last)
    ∙ ap (λ b. ((b || rules) || strange m a.premise a.conclusion) || last) (sym first)
    ∙ ap (λ b. (b || strange m a.premise a.conclusion) || last) (sym second) ∙ ap (λ b. b || last) (sym third)

pub returns-then-strange_pair : goal.returns-then-strange_pair
returns-then-strange_pair c fits = rw (tested (goal.at.returns-then-strange_pair c).Joined-strange_among-3 fits) (c.if-strange_pair.true ∙ ap (λ b. b || not (inside c.args.session.current c.full_set-m.result)) (sym c.if-strange_pair.true))

pub returns-else-strange_pair : goal.returns-else-strange_pair
unfolding inside
returns-else-strange_pair c fits = rw (tested (goal.at.returns-else-strange_pair c).Joined-strange_among-3 fits, c.if-strange_pair.false)
