-- The page so far, with the lines of the rows that are left, makes the page with all of them.
use Rattle.std.specs.Prelude.{◌≡◌, List, ℕ, get_or, map, take}
use Rattle.context.specs.Objects.{Object, object, objects_of, whole}
use Rattle.text.specs.Page.{page, text}
use Rattle.closed_lines.specs.Closed.{closed}
use Rattle.table_text.specs.Table.{mark_lines}
use Rattle.table_text.proofs.put_rows.Given as goal

-- the objects of chunks of two words, and their lines
abbrev pub objects_in : List (List ℕ) → List Object
objects_in = map (λ (c : List ℕ). object (get_or c 0 0) (get_or c 1 0))

abbrev pub mark_bytes : ℕ → List Object → List ℕ
mark_bytes n os = closed (mark_lines n os)

abbrev pub invariant-loop-yes : goal.invariant-loop-yes
invariant-loop-yes l =
    text (page l.out l.to) (mark_bytes l.fn.n (objects_in (take l.yes-iterator.n l.yes-iterator.iter.rest.now)))
    ≡ text (page l.fn.out l.fn.at) (mark_bytes l.fn.n (objects_of (whole l.fn.used l.fn.rows) l.fn.rows))
