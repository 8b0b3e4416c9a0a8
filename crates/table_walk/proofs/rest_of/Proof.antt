-- The walk over the empty lines from i on is the one from `at` on; each line takes at least one byte.
use Rattle.std.specs.Prelude.{Err}
use mathlib.Core.Path.{◌≡◌, refl, sym, ap, ◌∙◌}
use mathlib.Core.List.{List}
use Prim.Native.Nat.{ℕ, ◌≤◌, ◌<◌, ◌+◌, ◌-◌}
use native.Mathlib.Omega.{arith}
use lib.ListN.{length, drop}
use borrow.Author.Rules.{rules}
use Rattle.table_lines.specs.declared.Line.{Line}
use Rattle.table_lines.specs.Lines.{line_of, after}
use Rattle.table_lines.proofs.Lines.Laws.{after-inside, after-moves}
use Rattle.table_walk.specs.Walk.{rest}
use Rattle.table_walk.proofs.Walk.Laws.{rest_end, rest-on, rest-stop}
use Rattle.table_walk.proofs.rest_of.Statement.{statement}
use Rattle.table_walk.proofs.rest_of.Tie as tie

abbrev invariant-loop : tie.invariant-loop-i
invariant-loop file at i₀ i = rest (length file) file i ≡ rest (length file) file at

abbrev decreases-loop : tie.decreases-loop-i
decreases-loop file at i₀ i = length file - i

abbrev file : tie.In-loop-i invariant-loop decreases-loop → List ℕ
file c = c.args.file.now

-- the line found is the file's
size : (c : tie.After-line_at-line invariant-loop decreases-loop)
    → c.line_at-line.result.size ≡ (line_of (drop c.loop-i.i (file c.before))).size
size c = ap (λ (l : Line). l.size) c.line_at-line.ensures

-- the next line begins further on, inside the file
stepped : (c : tie.After-struct_known-in-loop-i-1 invariant-loop decreases-loop)
    → let i = c.loop-i.i in
    let n = i + c.line_at-line.result.step in
    (n ≡ after (file c.before.before.before.before) i) × (i < n) × (n ≤ length (file c.before.before.before.before))
stepped c =
    let i = c.loop-i.i in
    let e : i + c.line_at-line.result.step ≡ after (file c.before.before.before.before) i = ap (λ (l : Line). i + l.step) c.line_at-line.ensures in
    (e, omega (arith, after-moves (file c.before.before.before.before) i c.loop-i-test.true), omega (arith, after-inside (file c.before.before.before.before) i (omega arith)))

loop-holds : tie.Need-loop-i-init invariant-loop decreases-loop
loop-holds c = refl

returns : tie.Need-returns-then-line-ne0 invariant-loop decreases-loop
returns c =
    let f = file c.before.before.before.before in
    let l = c.loop-i in
    ap Err c.refuse.ensures
    ∙ sym (rest-stop f (length f) l.i (omega arith) (omega arith) (λ z. omega (arith, size c.before.before.before))) ∙ l.invariant

add-i : tie.Need-overflow_add-i invariant-loop decreases-loop
add-i c = omega (arith, stepped c)

loop-less : tie.Need-loop-i-smaller invariant-loop decreases-loop
loop-less c = omega (arith, stepped c)

loop-again : tie.Need-loop-i-preserved invariant-loop decreases-loop
loop-again c =
    let f = file c.before.before.before.before in
    let l = c.loop-i in
    ap (rest (length f) f) (stepped c).0
    ∙ sym (rest-on f (length f) l.i (omega arith) (omega arith) (omega (arith, size c.before.before.before))) ∙ l.invariant

returns-2 : tie.Need-returns invariant-loop decreases-loop
returns-2 c =
    let l = c.loop-i in
    let f = c.args.file.now in
    sym (rest_end f (length f) l.i c.loop-i-test.false) ∙ l.invariant

pub rest_of_spec : {M : Type 1} → statement M
rest_of_spec =
    tie.close
    (tie.spec
    invariant-loop
    decreases-loop
    loop-holds
    (λ c κs. search rules)
    (λ c κs. search rules)
    returns
    add-i
    loop-less
    loop-again
    returns-2)
