-- The fourth line begins behind three lines.
use mathlib.Core.Path.{◌≡◌, ap, ◌∙◌}
use mathlib.Core.List.{List}
use Prim.Native.Nat.{ℕ}
use native.Mathlib.Omega.{arith}
use borrow.Author.Rules.{rules}
use Rattle.table_lines.specs.Lines.{bytes_at, after}
use Rattle.table_lines.proofs.Lines.Laws.{after-inside}
use Rattle.table_counts.specs.Counts.{count_of}
use Rattle.table_header.specs.Header.{objects_at, attributes_at}
use Rattle.table_header.proofs.attribute_count.Statement.{statement}
use Rattle.table_header.proofs.attribute_count.Tie as tie

abbrev file : tie.After-next_at → List ℕ
file c = c.args.file.now

fourth : (c : tie.After-next_at) → c.next_at.result ≡ attributes_at (file c)
fourth c =
    c.next_at.ensures ∙ ap (after (file c)) (c.next_at-objects_at.ensures ∙ ap (after (file c)) c.next_at-title_at.ensures)

count-at-requires : tie.Need-count_at-requires
count-at-requires c κs =
    let f = file c in
    omega (arith, fourth c, after-inside f (objects_at f) (after-inside f (after f 0) (after-inside f 0 (omega arith))))

returns : tie.Need-returns
returns c = c.count_at.ensures ∙ ap (λ n. count_of (bytes_at (file c.before) n)) (fourth c.before)

pub attribute_count_spec : {M : Type 1} → statement M
attribute_count_spec = tie.close (tie.spec
    (λ c κs. search rules)
    (λ c κs. search rules)
    (λ c κs. search rules)
    count-at-requires
    returns)
