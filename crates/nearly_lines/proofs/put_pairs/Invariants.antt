-- The page so far, with the lines of the pairs not yet written, makes the page with all of them.
use Rattle.std.specs.Prelude.{◌≡◌}
use Rattle.context.specs.Objects.{objects_of}
use Rattle.short_premises.specs.Premises.{pairs_with}
use Rattle.text.specs.Page.{page, text}
use Rattle.nearly_lines.specs.Lines.{nearly_lines}
use Rattle.nearly_lines.proofs.put_pairs.Given as goal

abbrev pub invariant-loop-j : goal.invariant-loop-j
invariant-loop-j l =
    text (page l.out l.to) (nearly_lines l.n l.percent (objects_of l.used l.rows) (pairs_with l.i l.j))
    ≡ text (page l.fn.out l.fn.at) (nearly_lines l.n l.percent (objects_of l.used l.rows) (pairs_with l.i l.n))
