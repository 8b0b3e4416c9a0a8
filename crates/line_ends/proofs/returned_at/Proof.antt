-- The byte at the offset is the first of the bytes dropped to; at the end of the file there is none.
use mathlib.Core.Path.{◌≡◌, sym, ap, ◌∙◌}
use mathlib.Core.List.{List}
use Prim.Native.Nat.{ℕ, ◌≤◌, ◌<◌}
use lib.ListN.{length, get_or, drop, drop_of_length-le}
use lib.Seq.{drop-cons}
use lib.Dec.{eqb}
use borrow.Author.Tests.{eq-eqb, ne_eqb}
use borrow.Author.Rules.{rules}
use Rattle.table_lines.specs.Lines.{feeds, returned}
use Rattle.table_lines.proofs.Lines.Laws.{returned-fed, returned-alone}
use Rattle.line_ends.proofs.returned_at.Statement.{statement}
use Rattle.line_ends.proofs.returned_at.Tie as tie

module _ (file : List ℕ) (next : ℕ) where
  -- no byte is there; the byte there is a line feed, or another
  last : length file ≤ next → 1 ≡ returned (drop next file)
  last h = sym (returned-alone (drop next file) (ap feeds (drop_of_length-le file {i = next} h)))

  module _ (h : next < length file) where
    byte : feeds (drop next file) ≡ eqb (get_or file next 0) 10
    byte = ap feeds (drop-cons file next 0 h)

    fed : get_or file next 0 ≡ 10 → 2 ≡ returned (drop next file)
    fed e = sym (returned-fed (drop next file) (byte ∙ eq-eqb _ 10 e))

    alone : (get_or file next 0 ≡ 10 → ⊥) → 1 ≡ returned (drop next file)
    alone n = sym (returned-alone (drop next file) (byte ∙ ne_eqb _ 10 n))

returns : tie.Need-returns-then-next-file
returns c =
    let a = c.args in
    last a.file.now a.next c.if-next-file.true

returns-2 : tie.Need-returns-in-10
returns-2 c =
    let a = c.args in
    fed a.file.now a.next (search rules) c.in-10.is

returns-3 : tie.Need-returns-in_default
returns-3 c =
    let a = c.args in
    alone a.file.now a.next (search rules) c.in_default.in_default-own.rest.1

pub returned_at_spec : {M : Type 1} → statement M
returned_at_spec = tie.close (tie.spec
    returns
    (λ c. search rules)
    returns-2
    returns-3)
