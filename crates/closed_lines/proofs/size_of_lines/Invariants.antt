-- The bytes of the lines passed, with those of the lines that are left, are the bytes of all of them; they are no more than the bytes
-- passed.
use Rattle.std.specs.Prelude.{◌≡◌, ◌+◌, ◌-◌, ◌≤◌, length, take, drop}
use Rattle.table_lines.specs.Pieces.{lines_of}
use Rattle.closed_lines.specs.Closed.{bytes_in, first_lines}
use Rattle.closed_lines.proofs.size_of_lines.Given as goal

abbrev pub invariant-loop : goal.invariant-loop
invariant-loop l =
    (l.size ≤ l.from) × (l.from ≤ length l.bytes)
    × (l.size + bytes_in (take (l.fn.count - l.counter) (lines_of (drop l.from l.bytes))) ≡ bytes_in (first_lines l.fn.count l.fn.bytes))
