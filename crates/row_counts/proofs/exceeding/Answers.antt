-- With attribute p joined, it is the set of one attribute more.
use Rattle.std.proofs.Common.{◌≡◌, ◌+◌, ◌≤◌, ◌<◌, ◌^◌, List, ℕ, get_or, subst, sym, ap, ◌∙◌, add-one, arith}
use Rattle.std.proofs.lemmas.List.{get_or-take, length-take-le}
use Rattle.session.specs.Limits.{most_objects}
use Rattle.attribute_set.specs.Passing.{passing}
use Rattle.attribute_set.proofs.Passing.Laws.{passing-lt, passing-none}
use Rattle.nearly_always.specs.Nearly.Counting.{exceeds_by, joined_by}
use Rattle.nearly_always.proofs.Nearly.Counting.Laws.{passing-joined}
use Rattle.row_counts.proofs.exceeding.Goals as goal

passing-next : (percent total : ℕ) (counts : List ℕ) (p : ℕ) {set set' : ℕ} → set ≡ passing (exceeds_by percent total counts) p
    → set' ≡ joined_by percent total (get_or counts p 0) p set → set' ≡ passing (exceeds_by percent total counts) (p + 1)
passing-next percent total counts p e j = j ∙ rw (e, add-one) (passing-joined percent total counts p)

pub loop-p-init : goal.loop-p-init
loop-p-init c = sym (passing-none _)

pub joined-set-requires : goal.joined-set-requires
joined-set-requires c =
    let a = c.args in
    let known = c.requires.n_le_most_attributes in
    let p = c.loop-p.p in
    let h : p < a.n = omega (arith, length-take-le a.n a.counts.now known.1, c.loop-p-test.true) in (
      omega arith,
      subst (λ (s : ℕ). s < 2 ^ p) (sym c.loop-p.invariant) (passing-lt _ p),
      subst (λ (s : ℕ). s ≤ most_objects) (sym (get_or-take a.n a.counts.now p 0 h)) (known.2.at p h),
      c.requires.total_le_most_objects.0,
      c.requires.total_le_most_objects.1,
    )

pub loop-p-preserved : goal.loop-p-preserved
loop-p-preserved c =
    let a = c.args in
    let p = c.loop-p.p in
    let h : p < a.n = omega (arith, length-take-le a.n a.counts.now c.requires.n_le_most_attributes.1, c.loop-p-test.true) in
    passing-next a.percent a.total a.counts.now p c.loop-p.invariant
    (c.joined-set.ensures ∙ ap (λ k. joined_by a.percent a.total k p c.loop-p.set) (get_or-take a.n a.counts.now p 0 h))

pub returns : goal.returns
returns c =
    let a = c.args in
    let e : c.loop-p.p ≡ a.n = omega (arith, length-take-le a.n a.counts.now c.requires.n_le_most_attributes.1, c.loop-p-test.false, c.loop-p.auto.p-end) in
    c.loop-p.invariant ∙ ap (passing (exceeds_by a.percent a.total a.counts.now)) e
