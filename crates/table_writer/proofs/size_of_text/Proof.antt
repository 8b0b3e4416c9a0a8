-- The parts are added up as the text is made of them; where the checks pass each is small.
use Prim.Native.Nat.{ℕ, ◌+◌, ◌*◌, ◌≤◌}
use native.Mathlib.Omega.{arith}
use native.Mathlib.Nat.{mul-le-mul}
use borrow.Author.Rules.{rules}
use Rattle.session.specs.Limits.{most_attributes, most_objects}
use Rattle.text.proofs.Text.Digits.Laws.{number_short}
use Rattle.line_tests.specs.Tests.{most_name_bytes}
use Rattle.table_text.proofs.Table.Laws.{text-size}
use Rattle.row_checks.proofs.Rows.Laws.{Fits, rows_fit}
use Rattle.table_writing.proofs.Writing.Laws.{names-fit}
use Rattle.table_writer.proofs.size_of_text.Statement.{statement}
use Rattle.table_writer.proofs.size_of_text.Tie as tie

-- what is known of the numbers
pub record Small (n used x y size : ℕ) : Type 0 where
  pub attributes : n ≤ most_attributes
  pub objects : used ≤ most_objects
  pub cells : used * (n + 1) ≤ most_objects * (most_attributes + 1)
  pub used_digits : x ≤ 20
  pub n_digits : y ≤ 20
  pub named : size ≤ most_name_bytes * (used + n)

counted : (c : tie.After-size_of_number-2)
    → let a = c.args in
    Fits a.n a.used a.rows.now × (c.size_of_number.result ≤ 20) × (c.size_of_number-2.result ≤ 20)
counted c =
    let a = c.args in (
      rows_fit a.n a.used a.rows.now c.requires.0,
      omega (arith, c.size_of_number.ensures, number_short a.used),
      omega (arith, c.size_of_number-2.ensures, number_short a.n),
    )

small : (c : tie.After-size_of_lines)
    → let a = c.args in
    Small a.n a.used c.size_of_number.result c.size_of_number-2.result c.size_of_lines.result
small c =
    let a = c.args in
    let t = counted c.before in
    let f = t.0 in
    let few : a.n + 1 ≤ most_attributes + 1 = omega (arith, f) in
    record {
      attributes = f.attributes;
      objects = f.objects;
      cells = mul-le-mul f.objects few;
      used_digits = t.1;
      n_digits = t.2;
      named = omega (arith, c.size_of_lines.ensures, (names-fit a.n a.used a.names.now c.requires.1).1);
    }

add-counts : tie.Need-overflow_add-counts
add-counts c = omega (arith, counted c)

add-size-of-lines : tie.Need-overflow_add-used
add-size-of-lines c = omega (arith, counted c)

add-lines : tie.Need-overflow_add-lines
add-lines c = omega (arith, small c)

add-lines-2 : tie.Need-overflow_add-lines-2
add-lines-2 c = omega (arith, small c)

add-result : tie.Need-overflow_add-result
add-result c = omega (arith, small c)

add-result-2 : tie.Need-overflow_add-result-2
add-result-2 c = omega (arith, small c)

add-result-3 : tie.Need-overflow_add-result-3
add-result-3 c = omega (arith, small c)

mul-result : tie.Need-overflow_mul-result
mul-result c = omega (arith, small c)

add-result-4 : tie.Need-overflow_add-result-4
add-result-4 c = omega (arith, small c)

returns : tie.Need-returns
returns c =
    let a = c.args in
    let size = text-size a.n a.used a.rows.now a.names.now (names-fit a.n a.used a.names.now c.requires.1).0 in
    omega (arith, size, c.size_of_number.ensures, c.size_of_number-2.ensures, c.size_of_lines.ensures)

pub size_of_text_spec : {M : Type 1} → statement M
size_of_text_spec =
    tie.close
    (tie.spec
    (λ c κs. search rules)
    (λ c κs. search rules)
    add-counts
    add-size-of-lines
    (λ c κs. search rules)
    add-lines
    add-lines-2
    add-result
    add-result-2
    add-result-3
    mul-result
    add-result-4
    returns)
