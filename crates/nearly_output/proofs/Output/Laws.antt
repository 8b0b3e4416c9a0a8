-- The output of the program `nearly`. No output is longer than 274,560 bytes (`nearly-size`), and a table with 64 attributes (01:
-- properties) has just so many, in 2,080 lines (`whole-64`). A longer input gives what its first 65,536 bytes give (`nearly-first`). What
-- is read from a file into words for all rows is what the definition speaks of (`table-read`), and within the range of the listing
-- (`read-range`).
use Rattle.std.specs.Prelude.{◌≡◌, refl, List, ℕ, ◌+◌, ◌*◌, ◌≤◌, ◌<◌, length, take, drop, Result, Ok, Err}
use Rattle.std.proofs.Common.{sym, ap, ◌∙◌, arith, mul-le-mul, mul_assoc, mul_comm}
use Rattle.session.specs.declared.Refusal.{Refusal}
use Rattle.session.specs.Limits.{most_attributes, most_objects}
use Rattle.session.specs.Refusals.{refusal}
use Rattle.context.specs.Objects.{objects_of}
use Rattle.text.specs.Page.{page, text}
use Rattle.table_layout.specs.Layout.{most_bytes, input_most, opened_of}
use Rattle.table_layout.proofs.OfLayout.Laws.{opened-long, from-first-bytes}
use Rattle.table_layout.proofs.OfLayout.Passed.{table-objects, table-attributes}
use Rattle.table_layout.specs.declared.Layout.{Layout}
use Rattle.table_rows.specs.Rows.{rows_from}
use Rattle.mark_reading.specs.Marks.{reading, words_of_rows, words_read}
use Rattle.mark_reading.proofs.Marks.Laws.{reading-all, rows-held}
use Rattle.closing_lines.specs.Closing.{refusal_line}
use Rattle.closing_lines.proofs.Closing.Laws.{refusal-length}
use Rattle.handed_output.specs.declared.Told.{Told}
use Rattle.handed_output.specs.Handing.{untold, most_counted, Hands, WritesIn}
use Rattle.handed_output.proofs.Handing.Laws.{writes-whole}
use Rattle.nearly_always.specs.Nearly.{InRange}
use Rattle.short_premises.specs.Premises.{premises}
use Rattle.short_premises.proofs.Premises.Theorem.{how-many}
use Rattle.nearly_lines.proofs.Lines.Laws.{lines-size}
use Rattle.nearly_output.specs.Output.{percentage, table_lines, written, nearly_output, nearly_most}

-- ---- how long it is

-- twice the bytes of the lines of n attributes
lines-twice : (file : List ℕ) (l : Layout) → length (table_lines file l) * 2 ≡ l.attributes * (l.attributes + 1) * (l.attributes * 2 + 4)
lines-twice file l =
    let n = l.attributes in
    let k = length (premises n) in
    let e : k * (n * 2 + 4) * 2 ≡ k * 2 * (n * 2 + 4) = mul-swap k (n * 2 + 4) in
    ap (λ (m : ℕ). m * 2) (lines-size n percentage (rows_from l.objects file l.marks) (premises n)) ∙ e ∙ ap (λ (m : ℕ). m * (n * 2 + 4)) (how-many n)
  where
    mul-swap : (a b : ℕ) → a * b * 2 ≡ a * 2 * b
    mul-swap a b = mul_assoc a b 2 ∙ ap (λ (x : ℕ). a * x) (mul_comm b 2) ∙ sym (mul_assoc a 2 b)

pub whole-64 : (file : List ℕ) (l : Layout) → l.attributes ≡ 64 → (length (premises l.attributes) ≡ 2080) × (length (table_lines file l) ≡ nearly_most)
whole-64 file l e =
    let n = l.attributes in
    let count : length (premises n) ≡ 2080 = omega (arith, how-many n ∙ ap (λ (m : ℕ). m * (m + 1)) e) in (
      count,
      lines-size n percentage (rows_from l.objects file l.marks) (premises n) ∙ ap (λ (k : ℕ). k * (n * 2 + 4)) count
          ∙ ap (λ (m : ℕ). 2080 * (m * 2 + 4)) e,
    )

lines-size-most : (file : List ℕ) (l : Layout) → l.attributes ≤ most_attributes → length (table_lines file l) ≤ nearly_most
lines-size-most file l h =
    omega (arith, lines-twice file l, mul-le-mul (mul-le-mul h (step h)) (last h))
  where
    step : l.attributes ≤ 64 → l.attributes + 1 ≤ 65
    step h = omega arith

    last : l.attributes ≤ 64 → l.attributes * 2 + 4 ≤ 132
    last h = omega arith

pub nearly-size : (file : List ℕ) → length (nearly_output file) ≤ nearly_most
unfolding nearly_output
nearly-size file = go (opened_of file) refl
  where
    go : (o : Result Layout Refusal) → opened_of file ≡ o → length (written file o) ≤ nearly_most
    go (Ok l) e = lines-size-most file l (table-attributes file l e).1
    go (Err r) e = omega (arith, refusal-length r)

-- ---- a longer input

long-output : (file : List ℕ) → most_bytes < length file → nearly_output file ≡ refusal_line (refusal 21 most_bytes)
unfolding nearly_output
long-output file h = ap (written file) (opened-long file h)

pub nearly-first : (file : List ℕ) → nearly_output (take input_most file) ≡ nearly_output file
nearly-first = from-first-bytes nearly_output _ long-output

-- ---- what is read

-- the reading finds what the file opens as, and the words then hold the rows of the table
pub record Read (file words : List ℕ) (r : Result Layout Refusal) : Type 0 where
  pub answer : r ≡ opened_of file
  pub rows : (l : Layout) → r ≡ Ok l → objects_of l.objects words ≡ rows_from l.objects file l.marks

pub table-read : (file words words' : List ℕ) (r : Result Layout Refusal) → length words ≡ most_objects * 2 → r ≡ reading (length words) file
    → words' ≡ words_read file words → Read file words' r
table-read file words words' r w a h =
    let all : reading (length words) file ≡ opened_of file =
    ap (λ (k : ℕ). reading k file) w ∙ reading-all (opened_of file) (λ l e. table-objects file l e) in
    record {
      answer = a ∙ all;
      rows = λ l e.
          ap (objects_of l.objects) (h ∙ ap (λ (o : Result Layout Refusal). words_of_rows o file words) (sym a ∙ e))
          ∙ rows-held l.objects file l.marks (drop (l.objects * 2) words);
    }

pub read-range : (file words : List ℕ) (l : Layout) (r : Result Layout Refusal) → Read file words r → r ≡ Ok l → length words ≡ most_objects * 2
    → InRange l.attributes l.objects (length words) percentage
read-range file words l r h e w =
    let f = sym h.answer ∙ e in
    record {
      attributes = (table-attributes file l f).1;
      objects = table-objects file l f;
      places = omega (arith, w, table-objects file l f);
      percentage = omega arith;
    }

-- ---- what is written

-- the output of what the file opened as stands in the buffer whole
pub output-written : (file out out' : List ℕ) (r : Told) (x : Result Layout Refusal) (bs : List ℕ) → x ≡ opened_of file → bs ≡ written file x
    → (page out' r.end ≡ text (page out 0) bs) × (untold.bytes + length out ≤ most_counted → Hands untold r.end r.handed)
    → length out ≡ nearly_most → WritesIn out out' r (nearly_output file)
unfolding nearly_output
output-written file out out' r x bs e f t h =
    writes-whole out out' r (nearly_output file) (t.0 ∙ ap (text (page out 0)) (f ∙ ap (written file) e)) t.1
    (omega (arith, h, nearly-size file)) (omega (arith, h))
