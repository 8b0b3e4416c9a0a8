-- The page so far, with the marks not yet written, makes the page with all of them.
use Rattle.std.specs.Prelude.{◌≡◌, ◌-◌}
use Rattle.text.specs.Page.{page, text}
use Rattle.marks_text.specs.Marks.{marks_text}
use Rattle.marks_text.proofs.put_marks.Given as goal

abbrev pub invariant-loop : goal.invariant-loop
invariant-loop l =
    text (page l.out l.to) (marks_text (l.fn.n - l.counter) l.left_yes l.left_no) ≡ text (page l.fn.out l.fn.at) (marks_text l.fn.n l.fn.yes l.fn.no)
