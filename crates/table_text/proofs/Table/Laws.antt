-- The text of two small tables, computed (`cases`). Its lines and its bytes are three parts, one behind the other (`lines-parts`,
-- `text-parts`), and how many bytes that are (`text-size`).
use Rattle.std.specs.Prelude.{◌≡◌, refl, List, [], ◌∷◌, ◌++◌, ℕ, ◌+◌, ◌*◌, length, take, drop}
use Rattle.std.proofs.Common.{sym, ap, ◌∙◌, append_assoc, arith, length-append, take-add}
use Rattle.implication.specs.Pairs.{pairs}
use Rattle.implication.proofs.Pairs.Laws.{length_pairs}
use Rattle.context.specs.Objects.{Object, object, objects_of}
use Rattle.table_lines.specs.Lines.{line_of}
use Rattle.table_lines.specs.Pieces.{lines_of, pieces_from}
use Rattle.text.specs.Text.{digits, number_text}
use Rattle.marks_text.specs.Marks.{marks_text}
use Rattle.marks_text.proofs.Marks.Laws.{marks-length}
use Rattle.closed_lines.specs.Closed.{closed, bytes_in, first_lines}
use Rattle.closed_lines.proofs.Closed.Laws.{closed-append, closed-length}
use Rattle.table_text.specs.Table.{header_lines, mark_lines, lines_written, text_of}

-- computed: no rows and one property; and two rows of two properties, with a third name line that is too many and other line ends
cases : (text_of 1 0 [] (112 ∷ []) ≡ 66 ∷ 10 ∷ 10 ∷ 48 ∷ 10 ∷ 49 ∷ 10 ∷ 10 ∷ 112 ∷ 10 ∷ [])
    × (text_of 2 2 (1 ∷ 2 ∷ 0 ∷ 1 ∷ []) (97 ∷ 13 ∷ 98 ∷ 13 ∷ 10 ∷ 112 ∷ 10 ∷ 113 ∷ 10 ∷ 120 ∷ [])
    ≡ 66 ∷ 10 ∷ 10 ∷ 50 ∷ 10 ∷ 50 ∷ 10 ∷ 10 ∷ 97 ∷ 10 ∷ 98 ∷ 10 ∷ 112 ∷ 10 ∷ 113 ∷ 10 ∷ 88 ∷ 46 ∷ 10 ∷ 46 ∷ 63 ∷ 10 ∷ [])
unfolding closed marks_text digits pairs pieces_from line_of
cases = (refl, refl)

-- ---- the parts

module _ (n used : ℕ) (words names : List ℕ) where
  -- the names are the first lines of the lent names
  pub lines-parts : lines_written n used words names ≡ header_lines used n ++ (first_lines (used + n) names ++ mark_lines n (objects_of used words))
  lines-parts =
      let ls = lines_of names in
      let marks = mark_lines n (objects_of used words) in
      ap (λ (m : ℕ). header_lines m n ++ (take used ls ++ (take n (drop used ls) ++ marks))) (length_pairs object used words)
      ∙ ap (λ t. header_lines used n ++ t)
      (sym (append_assoc (take used ls) (take n (drop used ls)) marks) ∙ ap (λ t. t ++ marks) (sym (take-add used n ls)))

  pub text-parts : text_of n used words names
      ≡ closed (header_lines used n) ++ (closed (first_lines (used + n) names) ++ closed (mark_lines n (objects_of used words)))
  text-parts =
      let header = header_lines used n in
      let ls = first_lines (used + n) names in
      let marks = mark_lines n (objects_of used words) in
      ap closed lines-parts ∙ closed-append header (ls ++ marks) ∙ ap (λ t. closed header ++ t) (closed-append ls marks)

-- a line of marks has n bytes and its end
pub marks-size : (n : ℕ) (os : List Object) → length (closed (mark_lines n os)) ≡ length os * (n + 1)
unfolding closed
marks-size n [] = omega arith
marks-size n (o ∷ os) =
    let l = marks_text n o.yes_marks o.no_marks in
    omega (arith, length-append l (10 ∷ closed (mark_lines n os)), marks-length n o.yes_marks o.no_marks, marks-size n os)

pub text-size : (n used : ℕ) (words names : List ℕ) → length (first_lines (used + n) names) ≡ used + n
    → length (text_of n used words names)
    ≡ 6 + (length (number_text used) + length (number_text n)) + (bytes_in (first_lines (used + n) names) + used + n) + used * (n + 1)
unfolding bytes_in
text-size n used words names e =
    let header = header_lines used n in
    let ls = first_lines (used + n) names in
    let marks = mark_lines n (objects_of used words) in
    ap length (text-parts n used words names)
    ∙ omega (
      arith,
      length-append (closed header) (closed ls ++ closed marks),
      length-append (closed ls) (closed marks),
      closed-length header,
      closed-length ls,
      marks-size n (objects_of used words) ∙ ap (λ (k : ℕ). k * (n + 1)) (length_pairs object used words),
    )
