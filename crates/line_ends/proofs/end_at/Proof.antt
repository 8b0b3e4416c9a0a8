-- The byte at i is the first of the bytes dropped to.
use mathlib.Core.Path.{◌≡◌, sym, ap, ◌∙◌}
use mathlib.Core.List.{List, ◌∷◌}
use Prim.Native.Nat.{ℕ, ◌<◌, ◌+◌}
use native.Mathlib.Numerals.{add-one}
use lib.ListN.{length, get_or, drop}
use lib.Seq.{drop-cons}
use borrow.Author.Rules.{rules}
use Rattle.table_lines.specs.Lines.{returned, end_of, NoEnd}
use Rattle.table_lines.proofs.Lines.Laws.{end-feed, end-return, end_none}
use Rattle.line_ends.proofs.end_at.Statement.{statement}
use Rattle.line_ends.proofs.end_at.Tie as tie

module _ (file : List ℕ) (i : ℕ) (h : i < length file) where
  -- the bytes behind the one at the index
  abbrev behind : List ℕ
  behind = drop (i + 1) file

  byte : end_of (drop i file) ≡ end_of (get_or file i 0 ∷ behind)
  byte =
      let e : drop i file ≡ get_or file i 0 ∷ behind = rw add-one (drop-cons file i 0 h) in
      ap end_of e

  -- the byte is a line feed; a carriage return; another
  feed : get_or file i 0 ≡ 10 → 1 ≡ end_of (drop i file)
  feed e = sym (byte ∙ end-feed (get_or file i 0) behind e)

  return : get_or file i 0 ≡ 13 → returned behind ≡ end_of (drop i file)
  return e = sym (byte ∙ end-return (get_or file i 0) behind e)

  other : NoEnd (get_or file i 0) → 0 ≡ end_of (drop i file)
  other n = sym (byte ∙ end_none (get_or file i 0) behind n)

returns : tie.Need-returns-in-10
returns c =
    let a = c.args in
    feed a.file.now a.i (search rules) c.in-10.is

returns-2 : tie.Need-returns-in-13
returns-2 c =
    let a = c.args in
    c.returned_at.ensures ∙ return a.file.now a.i (search rules) c.in-13.is

returns-3 : tie.Need-returns-in_default
returns-3 c =
    let a = c.args in
    let n = c.in_default.in_default-own.rest in
    other a.file.now a.i (search rules) (n.0.1, n.1)

pub end_at_spec : {M : Type 1} → statement M
end_at_spec =
    tie.close
    (tie.spec
    (λ c. search rules)
    (λ c. search rules)
    (λ c κs. search rules)
    returns
    returns-2
    returns-3)
