-- The page so far, with the digits from a power of ten on, makes the page with the whole number.
use mathlib.Core.Path.{◌≡◌, sym, ap, ◌∙◌}
use Prim.Native.Nat.{ℕ, ◌+◌, ◌/◌, ◌%◌}
use borrow.Author.Rules.{rules}
use Rattle.text.specs.Text.{number_text}
use Rattle.text.specs.Text.Digits.{low, lead}
use Rattle.text.proofs.Text.Digits.Laws.{digit-next, digit-end}
use Rattle.text.specs.Page.{page, text}
use Rattle.text.proofs.Page.Laws.{text-step, text-end, same_size}
use Rattle.text.proofs.put_number.Statement.{statement}
use Rattle.text.proofs.put_number.Tie as tie

abbrev invariant-loop : tie.invariant-loop-power
invariant-loop out₀ at n to₀ power₀ out to power =
    (k : ℕ) × (power ≡ lead k) × (text (page out to) (low k n) ≡ text (page out₀ at) (number_text n))

abbrev decreases-loop : tie.decreases-loop-power
decreases-loop out₀ at n to₀ power₀ out to power = power

loop-holds : tie.Need-loop-power-init invariant-loop decreases-loop
loop-holds c =
    let a = c.args in
    let h = c.power_of-power.ensures in
    (h.size, h.first, ap (text (page a.out.now a.at)) (sym h.whole))

loop-again : tie.Need-loop-power-preserved invariant-loop decreases-loop
loop-again c =
    let l = c.loop-power in
    let n = c.args.n in
    let p = page l.out l.to in
    let d = digit-next n l.invariant.0 l.power l.invariant.1 (search rules) in
    let t = text-step p (48 + n / l.power % 10) (low d.0 n) c.put_byte-to.ensures in
    (d.0, d.1, t ∙ ap (text p) (sym d.2) ∙ l.invariant.2)

same_length : tie.Need-shape_of-out invariant-loop decreases-loop
same_length c = same_size _ _ _ _ c.loop-power.invariant.2

returns : tie.Need-returns invariant-loop decreases-loop
returns c =
    let l = c.loop-power in
    text-end (page l.out l.to) _ (digit-end _ l.invariant.0 l.power l.invariant.1 (search rules)) ∙ l.invariant.2

pub put_number_spec : {M : Type 1} → statement M
put_number_spec =
    tie.close
    (tie.spec
    invariant-loop
    decreases-loop
    (λ c κs. search rules)
    loop-holds
    (λ c. search rules)
    (λ c. search rules)
    (λ c. search rules)
    (λ c κs. search rules)
    (λ c. search rules)
    loop-again
    same_length
    returns)
