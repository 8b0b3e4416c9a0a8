-- The bytes not yet read are the first ones of the line, and the words are those of the others.
use Rattle.std.proofs.Common.{◌≡◌, ◌≤◌, length, take, drop}
use Rattle.table_bytes.specs.Bytes.{is_yes, is_no}
use Rattle.table_rows.specs.Rows.{word_of}
use Rattle.table_rows.proofs.row_of_marks.Given as goal

abbrev pub invariant-loop-mark : goal.invariant-loop-mark
invariant-loop-mark l =
    let left = l.mark-iterator.iter.rest.now in
    record {
      in_front : left ≡ take (length left) l.line;
      inside : length left ≤ length l.line;
      yes : l.yes ≡ word_of is_yes (drop (length left) l.line);
      no : l.no ≡ word_of is_no (drop (length left) l.line);
    }
