-- Out of range nothing is listed; in range the set is.
use mathlib.Core.Path.{refl, sym, ◌∙◌}
use mathlib.Core.Bool.{true≢false}
use borrow.Author.Rules.{rules}
use Rattle.row_counts.proofs.nearly_always.Statement.{statement}
use Rattle.row_counts.proofs.nearly_always.Tie as tie

returns : tie.Need-returns-then-not-in_range
returns c = record {
  in_range = λ h. absurd (true≢false (sym (c.in_range.ensures.seen h) ∙ c.if-not-in_range.true));
  out_of_range = λ h. refl;
}

list-in-range-requires : tie.Need-list_in_range-requires
list-in-range-requires c κs = c.in_range.ensures.so c.if-not-in_range.false

returns-2 : tie.Need-returns
returns-2 c =
    record {
      in_range = λ h. c.list_in_range.ensures;
      out_of_range = λ h. absurd (h (c.in_range.ensures.so c.if-not-in_range.false));
    }

pub nearly_always_spec : {M : Type 1} → statement M
nearly_always_spec = tie.close (tie.spec
    (λ c κs. search rules)
    returns
    list-in-range-requires
    returns-2)
