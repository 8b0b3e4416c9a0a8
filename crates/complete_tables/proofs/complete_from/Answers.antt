-- Each line passes, and the first with an unknown mark decides.
use Rattle.std.specs.Prelude.{◌≡◌, Bool, ℕ, suc, ◌+◌, ◌-◌, ◌<◌, List, take, drop, Err}
use Rattle.std.proofs.Common.{refl, sym, ap, ◌∙◌, arith}
use native.Mathlib.Nat.{sub-zero}
use Rattle.table_lines.specs.Lines.{bytes_at}
use Rattle.table_bytes.specs.Bytes.{is_known}
use Rattle.line_bytes.specs.Everywhere.{everywhere}
use Rattle.table_layout.specs.declared.Layout.{Layout}
use Rattle.table_layout.proofs.OfLayout.Passed.{table-marks}
use Rattle.table_walk.proofs.Walk.Passed.{NextLine, next-line}
use Rattle.complete_tables.specs.Complete.{complete_from}
use Rattle.complete_tables.proofs.Complete.Laws.{complete-on, complete-stop}
use Rattle.complete_tables.proofs.complete_from.Goals as goal

-- what is found of a line's bytes
known : (file : List ℕ) (count n at i : ℕ) (b : Bool) → NextLine file count n at i
    → b ≡ everywhere is_known (take (at + n - at) (drop at file)) → everywhere is_known (bytes_at file at) ≡ b
known file count n at i b line e =
    let s : at + n - at ≡ n = omega arith in
    sym (e ∙ ap (λ k. everywhere is_known (take k (drop at file))) s ∙ ap (everywhere is_known) line.bytes)

-- of the lines left, one and the others
left : (l : Layout) (file : List ℕ) (at i : ℕ) → i < l.objects
    → complete_from (suc (l.objects - (i + 1))) l file at ≡ complete_from (l.objects - i) l file at
left l file at i h =
    let s : suc (l.objects - (i + 1)) ≡ l.objects - i = omega arith in
    ap (λ m. complete_from m l file at) s

pub loop-init : goal.loop-init
loop-init c = rw sub-zero (record { passes = (table-marks _ _ c.requires).2; decides = refl })

pub overflow_add-end : goal.overflow_add-end
overflow_add-end c = omega (arith, (next-line _ _ _ _ _ c.loop-test.true c.loop.invariant.passes).fits)

pub slice_bounds-all_pass-end : goal.slice_bounds-all_pass-end
slice_bounds-all_pass-end c = (next-line _ _ _ _ _ c.loop-test.true c.loop.invariant.passes).fits

pub returns-then-not-all_pass : goal.returns-then-not-all_pass
returns-then-not-all_pass c =
    let a = c.args in
    let l = c.loop in
    let line = next-line a.file.now a.layout.objects a.layout.attributes l.at l.counter c.loop-test.true l.invariant.passes in
    ap Err c.refuse.ensures
    ∙ sym (complete-stop _ a.layout a.file.now l.at (known _ _ _ _ _ _ line c.all_pass.ensures ∙ c.if-not-all_pass.true))
    ∙ left a.layout a.file.now l.at l.counter c.loop-test.true ∙ l.invariant.decides

pub loop-preserved : goal.loop-preserved
loop-preserved c =
    let a = c.args in
    let l = c.loop in
    let line = next-line a.file.now a.layout.objects a.layout.attributes l.at l.counter c.loop-test.true l.invariant.passes in
    rw (c.next_at-at.ensures ∙ line.behind) (record {
      passes = line.passes;
      decides =
          sym (complete-on _ a.layout a.file.now l.at (known _ _ _ _ _ _ line c.all_pass.ensures ∙ c.if-not-all_pass.false))
          ∙ left a.layout a.file.now l.at l.counter c.loop-test.true ∙ l.invariant.decides;
    })

pub returns : goal.returns
unfolding complete_from
returns c =
    let l = c.loop in
    let e : 0 ≡ c.args.layout.objects - l.counter = omega arith in
    ap (λ m. complete_from m c.args.layout c.args.file.now l.at) e ∙ l.invariant.decides
