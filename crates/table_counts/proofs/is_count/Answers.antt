-- A line of few bytes is a count where they are digits.
use Rattle.std.proofs.Common.{◌<◌, length, ◌∙◌, arith}
use Rattle.std.proofs.lemmas.Bool.Decides.{nat_tests}
use Rattle.table_counts.proofs.Counts.Laws.{count-few}
use Rattle.table_counts.proofs.is_count.Goals as goal

pub returns-then-line-le-MOST_DIGITS : goal.returns-then-line-le-MOST_DIGITS
returns-then-line-le-MOST_DIGITS c =
    let some : 0 < length c.args.line.now = grind (arith, nat_tests) in
    c.all_pass.ensures ∙ count-few c.args.line.now some (omega arith)
