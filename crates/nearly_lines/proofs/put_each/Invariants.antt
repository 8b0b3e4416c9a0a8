-- The page so far, with the lines of the premises not yet written, makes the page with all of them.
use Rattle.std.specs.Prelude.{◌≡◌}
use Rattle.context.specs.Objects.{objects_of}
use Rattle.short_premises.specs.Premises.{premises_below, premises}
use Rattle.text.specs.Page.{page, text}
use Rattle.nearly_lines.specs.Lines.{nearly_lines}
use Rattle.nearly_lines.proofs.put_each.Given as goal

abbrev pub invariant-loop-i : goal.invariant-loop-i
invariant-loop-i l =
    text (page l.out l.to) (nearly_lines l.n l.percent (objects_of l.used l.rows) (premises_below l.n l.i))
    ≡ text (page l.fn.out l.fn.at) (nearly_lines l.n l.percent (objects_of l.used l.rows) (premises l.n))
