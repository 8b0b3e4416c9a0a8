-- A pass: what makes the pass of the implications left from where it stands makes the whole pass of the set.
use Rattle.std.proofs.Common.{◌≡◌, List, ℕ, ◌<◌, ◌+◌, ◌-◌, ◌*◌, drop, get_or, sym, ◌∙◌, arith}
use native.Mathlib.Nat.{sub-zero}
use Rattle.attribute_set.proofs.Sets.Laws.{and→sub, sub→and}
use Rattle.implication.proofs.Pairs.Laws.{pairs-at, pairs_end}
use Rattle.implication.specs.Closure.{implication, implications_of, fire}
use Rattle.implication.proofs.Closure.Laws.{fire-taken, fire-left}
use Rattle.implication.specs.Until.{PassUntil}
use Rattle.implication.proofs.Until.Laws.{pass-met, pass-end, pass-more}
use Rattle.word_pairs.proofs.Chunks.{length_taken, first_word, second_word}
use Rattle.closures.proofs.pass_until.Goals as goal
use Rattle.closures.proofs.pass_until.Goals.{then-premise-s+else-t-stop-ne0, else-premise-s}

-- what makes the pass of the implications after the one from p to q makes the whole pass of the set
turn : (rules : List ℕ) (count set stop s i p q : ℕ) → p ≡ get_or rules (i * 2) 0 → q ≡ get_or rules (i * 2 + 1) 0 → i < count
    → ((r : ℕ) → PassUntil (implications_of (count - i) (drop (i * 2) rules)) s stop r → PassUntil (implications_of count rules) set stop r)
    → (t r : ℕ) → t ≡ fire (implication p q) s → PassUntil (implications_of (count - (i + 1)) (drop ((i + 1) * 2) rules)) t stop r
    → PassUntil (implications_of count rules) set stop r
turn rules count set stop s i p q d f h whole t r e m =
    whole r (rw (pairs-at implication rules count i h, ← d, ← f) (pass-more _ _ s (rw e at m)))

pub loop-rule-init : goal.loop-rule-init
loop-rule-init c = λ r p. rw sub-zero at p

pub returns-then-t-stop-ne0 : goal.returns-then-t-stop-ne0
returns-then-t-stop-ne0 c =
    let l = c.loop-rule in
    let a = c.args in
    let h = c.loop-rule-test.true in
    let whole = c.as_chunks.ensures.front in
    turn a.rules.now a.count a.set a.stop l.s l.rule-index _ _ (first_word _ _ whole a.count l.rule-index h)
    (second_word _ _ whole a.count l.rule-index h) (omega (arith, length_taken _ _ whole a.count)) l.invariant _ _
    (sym (fire-taken (implication _ _) _ (and→sub _ _ c.if-premise-s.true))) (pass-met _ _ _ c.if-t-stop-ne0.true)

pub loop-rule-preserved : goal.loop-rule-preserved
loop-rule-preserved c =
    let l = c.loop-rule in
    let a = c.args in
    let h = c.loop-rule-test.true in
    let whole = c.as_chunks.ensures.front in
    λ r p. turn a.rules.now a.count a.set a.stop l.s l.rule-index _ _ (first_word _ _ whole a.count l.rule-index h)
    (second_word _ _ whole a.count l.rule-index h) (omega (arith, length_taken _ _ whole a.count)) l.invariant _ r
    (elim c.if-premise-s.branch [
      | then-premise-s+else-t-stop-ne0 w ↦ w.s-is ∙ sym (fire-taken (implication _ _) _ (and→sub _ _ w.if-premise-s.true))
      | else-premise-s w ↦ w.s-is ∙ sym (fire-left (implication _ _) _ (λ h. w.if-premise-s.false (sub→and h)))
    ])
    p

pub returns : goal.returns
returns c =
    let l = c.loop-rule in
    let a = c.args in
    let n = length_taken _ _ c.as_chunks.ensures.front a.count in
    l.invariant _ (rw (pairs_end implication (drop (l.rule-index * 2) a.rules.now) a.count l.rule-index (omega (arith, n))) (pass-end _ _))
