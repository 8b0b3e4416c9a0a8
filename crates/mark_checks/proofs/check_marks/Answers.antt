-- The first row that contradicts is found by one pass; no row before it is marked both ways, so the search for such a row begins there.
use Rattle.std.specs.Prelude.{◌≡◌, true, false, List, [], ◌∷◌, ◌++◌, ℕ, ◌+◌, ◌-◌, ◌*◌, ◌≤◌, ◌<◌, drop}
use Rattle.std.proofs.Common.{sym, ap, ◌∙◌, arith}
use Rattle.std.proofs.Math.Option.{some}
use Rattle.theory.specs.Implications.{Implication}
use Rattle.implication.specs.Closure.{implication, in_force}
use Rattle.context.specs.Places.{lowest, anywhere}
use Rattle.context.specs.Objects.{object, objects_of, marked_twice, contradicts, whole}
use Rattle.context.proofs.Places.Search.{anywhere-at, anywhere-none}
use Rattle.session.specs.Refusals.{refusal}
use Rattle.machine.specs.Checks.{session_checks}
use Rattle.machine.specs.Calls.{state_of}
use Rattle.machine.proofs.Checks.Laws.{none-failing}
use Rattle.mark_checks.proofs.Marks.Laws.{lowest-idle, contradicting-whole, double-found, double-none, double-whole, none-double, five, six}
use Rattle.mark_checks.proofs.check_marks.Goals as goal

-- by what the first search finds: the empty implication changes nothing
module _ (rs : List (Implication ℕ)) (count : ℕ) (ws : List ℕ) {row : ℕ} (searched : row ≡ lowest (contradicts (rs ++ (implication 0 0 ∷ []))) (objects_of count ws)) where
  first : row ≡ lowest (contradicts rs) (objects_of count ws)
  first = searched ∙ lowest-idle rs (objects_of count ws)

  neither : count ≤ row → (anywhere marked_twice (objects_of count ws) ≡ false) × (anywhere (contradicts rs) (objects_of count ws) ≡ false)
  neither h =
      let none = none-double rs count ws (omega (arith, first)) in
      (anywhere-none marked_twice object ws count none, anywhere-none (contradicts rs) object ws count (omega (arith, first)))

  within : row < count → row ≤ whole count ws
  within h = omega (arith, first, contradicting-whole rs count ws (omega (arith, first)))

  -- and by what the second finds, among the k rows that the slice has whole
  module _ (h : row < count) {k double : ℕ} (had : k ≡ whole count ws) (second : double ≡ row + lowest marked_twice (objects_of (k - row) (drop (row * 2) ws))) where
    of-whole : double ≡ lowest marked_twice (objects_of (whole count ws) ws)
    of-whole = double-found rs count ws first h had second

    doubled : double < k → (double ≡ lowest marked_twice (objects_of count ws)) × (anywhere marked_twice (objects_of count ws) ≡ true)
    doubled l =
        let is = double-whole rs count ws (omega (arith, of-whole)) in
        (of-whole ∙ sym is, anywhere-at marked_twice object ws count (omega (arith, is, of-whole)))

    contradicting : k ≤ double → (anywhere marked_twice (objects_of count ws) ≡ false) × (anywhere (contradicts rs) (objects_of count ws) ≡ true)
    contradicting l =
        (anywhere-none marked_twice object ws count (double-none rs count ws (omega (arith, of-whole))), anywhere-at (contradicts rs) object ws count (omega (arith, first)))

pub returns-then-used-row : goal.returns-then-used-row
unfolding session_checks
returns-then-used-row c asked =
    let a = c.args in
    let f = neither (in_force a.background.now a.list.now a.session.rules) a.session.rows a.rows.now c.first_contradiction-row.ensures (omega arith) in
    sym (none-failing _ (f.0, (f.1, tt)))

pub first_double-double-requires : goal.first_double-double-requires
first_double-double-requires c =
    let a = c.args in
    (omega (arith, c.min-whole.ensures), omega (arith, c.min-whole.ensures, within (in_force a.background.now a.list.now a.session.rules) a.session.rows a.rows.now c.first_contradiction-row.ensures (omega arith)))

pub returns-then-double-whole : goal.returns-then-double-whole
returns-then-double-whole c asked =
    let a = c.args in
    let f = doubled (in_force a.background.now a.list.now a.session.rules) a.session.rows a.rows.now c.first_contradiction-row.ensures (omega arith) c.min-whole.ensures c.first_double-double.ensures (omega arith) in
    c.refused.ensures ∙ ap (λ place. some (refusal 5 place)) f.0 ∙ sym (five (state_of a.session a.rows.now a.list.now a.background.now) asked f.1)

pub returns : goal.returns
returns c asked =
    let a = c.args in
    let rs = in_force a.background.now a.list.now a.session.rules in
    let f = contradicting rs a.session.rows a.rows.now c.first_contradiction-row.ensures (omega arith) c.min-whole.ensures c.first_double-double.ensures (omega arith) in
    c.refused-2.ensures ∙ ap (λ place. some (refusal 6 place)) (first rs a.session.rows a.rows.now c.first_contradiction-row.ensures) ∙ sym (six (state_of a.session a.rows.now a.list.now a.background.now) asked f.0 f.1)
