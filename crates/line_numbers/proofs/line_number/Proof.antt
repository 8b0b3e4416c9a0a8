-- The number so far, with the lines that end before the place from here on, is the number.
use mathlib.Core.Path.{◌≡◌, ap}
use mathlib.Core.List.{List}
use Prim.Native.Nat.{ℕ, ◌+◌, ◌-◌, ◌≤◌, ◌<◌}
use native.Mathlib.Omega.{arith}
use borrow.Author.Rules.{rules}
use lib.ListN.{length}
use Rattle.table_lines.proofs.Lines.Laws.{after-inside, after-moves}
use Rattle.line_numbers.specs.Numbers.{ended_before, number_of_line}
use Rattle.line_numbers.proofs.Numbers.Laws.{ended-past, ended_here, ended-next}
use Rattle.line_numbers.proofs.line_number.Statement.{statement}
use Rattle.line_numbers.proofs.line_number.Tie as tie

abbrev invariant-loop : tie.invariant-loop-at
invariant-loop file place number₀ at₀ number at =
    (at ≤ length file) × (number ≤ at + 1) × (number + ended_before (length file) file place at ≡ number_of_line file place)

abbrev decreases-loop : tie.decreases-loop-at
decreases-loop file place number₀ at₀ number at = length file - at

-- the file, the place and where the line begins, in a turn of the loop
abbrev file : tie.In-loop-at invariant-loop decreases-loop → List ℕ
file t = t.args.file.now

abbrev place : tie.In-loop-at invariant-loop decreases-loop → ℕ
place t = t.args.place

abbrev at : tie.In-loop-at invariant-loop decreases-loop → ℕ
at t = t.loop-at.at

-- the next line begins behind this one, inside the file
next : (c : tie.After-next_at-next invariant-loop decreases-loop)
    → (at c.before < c.next_at-next.result) × (c.next_at-next.result ≤ length (file c.before))
next c =
    let h : at c.before < length (file c.before) = omega arith in
    (omega (arith, c.next_at-next.ensures, after-moves (file c.before) (at c.before) h), omega (arith, c.next_at-next.ensures, after-inside (file c.before) (at c.before) (omega arith)))

loop-holds : tie.Need-loop-at-init invariant-loop decreases-loop
loop-holds c = (omega arith, omega arith, omega arith)

returns : tie.Need-returns-then-place-next invariant-loop decreases-loop
returns c =
    omega (arith, ended_here (file c.before.before) (place c.before.before) (length (file c.before.before)) (at c.before.before) (omega (arith, c.next_at-next.ensures)))

add-number : tie.Need-overflow_add-number invariant-loop decreases-loop
add-number c = omega (arith, next c.before)

loop-less : tie.Need-loop-at-smaller invariant-loop decreases-loop
loop-less c = omega (arith, next c.before)

loop-again : tie.Need-loop-at-preserved invariant-loop decreases-loop
loop-again c =
    let e = c.next_at-next.ensures in
    let n = ended-next (file c.before.before) (place c.before.before) (at c.before.before) (omega arith) (omega (arith, e)) in
    let m = ap (ended_before (length (file c.before.before)) (file c.before.before) (place c.before.before)) e in
    ((next c.before).1, omega (arith, next c.before), omega arith)

returns-2 : tie.Need-returns invariant-loop decreases-loop
returns-2 c =
    let a = c.args in
    omega (arith, ended-past a.file.now a.place (length a.file.now) c.loop-at.at (omega arith))

pub line_number_spec : {M : Type 1} → statement M
line_number_spec =
    tie.close (tie.spec
    invariant-loop
    decreases-loop
    loop-holds
    (λ c κs. search rules)
    returns
    add-number
    loop-less
    loop-again
    returns-2)
