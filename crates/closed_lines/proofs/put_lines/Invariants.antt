-- The page so far, with the lines that are left, makes the page with all of them.
use Rattle.std.specs.Prelude.{◌≡◌, ◌-◌, ◌≤◌, length, take, drop}
use Rattle.text.specs.Page.{page, text}
use Rattle.table_lines.specs.Pieces.{lines_of}
use Rattle.closed_lines.specs.Closed.{closed, first_lines}
use Rattle.closed_lines.proofs.put_lines.Given as goal

abbrev pub invariant-loop : goal.invariant-loop
invariant-loop l =
    (l.from ≤ length l.bytes)
    × (text (page l.out l.to) (closed (take (l.fn.count - l.counter) (lines_of (drop l.from l.bytes))))
    ≡ text (page l.fn.out l.fn.at) (closed (first_lines l.fn.count l.fn.bytes)))
