-- M is the code's where a word has nothing outside the first 64 attributes.
use Rattle.std.specs.Prelude.{◌≡◌, Bool, not, ◌||◌, ℕ, ◌^◌, ◌<◌, min}
use Rattle.std.proofs.Common.{ap, ap₂, ◌∙◌, arith}
use Rattle.attribute_set.specs.Sets.{full, meets}
use Rattle.attribute_set.proofs.Sets.Laws.{inside-first}
use Rattle.context.specs.Objects.{marked_twice}
use Rattle.machine.specs.Checks.{strange}
use Rattle.row_tests.proofs.bad_row.Goals as goal

of_m : (a b n m : ℕ) {r : Bool} → a < 2 ^ 64 → b < 2 ^ 64 → m ≡ full (min n 64) → r ≡ strange m a b → r ≡ strange (full n) a b
unfolding strange
of_m a b n m h k e f =
    f ∙ ap (λ m. strange m a b) e ∙ ap₂ (λ x y. not x || not y) (inside-first a n 64 h) (inside-first b n 64 k)

pub returns-then-strange_pair : goal.returns-then-strange_pair
returns-then-strange_pair c =
    let a = c.args in
    let e = of_m a.yes a.no a.n c.full_set.result (omega arith) (omega arith) c.full_set.ensures c.strange_pair.ensures in
    rw (← e, c.if-strange_pair.true)

pub returns-else-strange_pair : goal.returns-else-strange_pair
unfolding marked_twice meets
returns-else-strange_pair c =
    let a = c.args in
    let e = of_m a.yes a.no a.n c.full_set.result (omega arith) (omega arith) c.full_set.ensures c.strange_pair.ensures in
    rw (← e, c.if-strange_pair.false)
