-- The page so far, with the marks not yet written, makes the page with all of them.
use Rattle.std.specs.Prelude.{◌≡◌, ◌-◌}
use Rattle.text.specs.Text.{set_text}
use Rattle.text.specs.Page.{page, text}
use Rattle.text.proofs.put_set.Given as goal

abbrev pub invariant-loop : goal.invariant-loop
invariant-loop l = text (page l.out l.to) (set_text (l.fn.n - l.counter) l.left) ≡ text (page l.fn.out l.fn.at) (set_text l.fn.n l.fn.set)
