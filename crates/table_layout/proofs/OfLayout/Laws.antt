-- What a file opens as: two computed cases (`cases`), and for every file (`opened-long`, `opened-walked`). What is the same for all files
-- that are too long is given by the first bytes of an input (`from-first-bytes`).
use Rattle.std.specs.Prelude.{◌≡◌, refl, Bool, true, false, List, [], ◌∷◌, ◌++◌, ℕ, ◌≤◌, ◌<◌, length, take, ltb, Result, Ok, Err}
use Rattle.std.proofs.Common.{sym, ap, ◌∙◌, arith, take_all, length-take-le}
use borrow.Author.Tests.{lt-ltb, le-ltb, ltb-true, ltb-false}
use Rattle.session.specs.declared.Refusal.{Refusal}
use Rattle.session.specs.Refusals.{refusal}
use Rattle.table_lines.specs.Lines.{line_of}
use Rattle.line_bytes.specs.Everywhere.{everywhere}
use Rattle.table_counts.specs.Counts.{decimal_from, is_count, count_of}
use Rattle.line_faults.specs.Faults.{fault}
use Rattle.table_header.specs.Header.{object_count, attribute_count, header}
use Rattle.table_layout.specs.Layout.{most_bytes, input_most, to_attribute_names, to_marks, kinds_to_end, layout, layout_of, opened_from, opened_of}
use Rattle.line_walk.specs.Walk.{line_fault, walk}
use Rattle.table_walk.specs.Walk.{rest, place_of, then_rest}

-- `B`, an empty title, one row and one property with their names, and the marks `X` without line feed
abbrev small : List ℕ
small = 66 ∷ 10 ∷ 10 ∷ 49 ∷ 10 ∷ 49 ∷ 10 ∷ 10 ∷ 111 ∷ 10 ∷ 112 ∷ 10 ∷ 88 ∷ []

-- computed: it opens, and with a line behind it that is not empty it does not
cases : (opened_of small ≡ Ok (layout 1 1 8 10 12)) × (opened_of (small ++ (10 ∷ 10 ∷ 88 ∷ [])) ≡ Err (refusal 28 15))
unfolding opened_of layout_of walk rest line_fault fault is_count count_of decimal_from everywhere line_of
cases = (refl, refl)

module _ (file : List ℕ) where
  pub layout-same : {o n x y m : ℕ} → o ≡ object_count file → n ≡ attribute_count file → x ≡ place_of (walk header file 0)
      → y ≡ place_of (walk (to_attribute_names file) file 0) → m ≡ place_of (walk (to_marks file) file 0) → layout o n x y m ≡ layout_of file
  unfolding layout_of
  layout-same e f g h i = rw (e, f, g, h, i)

  pub opened-long : most_bytes < length file → opened_of file ≡ Err (refusal 21 most_bytes)
  unfolding opened_of
  opened-long h = rw (opened_of, lt-ltb most_bytes (length file) h)

  pub opened-walked : length file ≤ most_bytes → (w : Result ℕ Refusal) → w ≡ then_rest file (walk (kinds_to_end file) file 0)
      → opened_of file ≡ opened_from (layout_of file) w
  unfolding opened_of
  opened-walked h w e = rw (opened_of, le-ltb most_bytes (length file) h, e)

pub from-first-bytes : (f : List ℕ → List ℕ) (long : List ℕ) → ((file : List ℕ) → most_bytes < length file → f file ≡ long)
    → (file : List ℕ) → f (take input_most file) ≡ f file
from-first-bytes f long same file = go (ltb input_most (length file)) refl
  where
    go : (b : Bool) → ltb input_most (length file) ≡ b → f (take input_most file) ≡ f file
    go true e =
        let l = ltb-true input_most (length file) e in
        let k : input_most ≤ length file = omega (arith, l) in
        same (take input_most file) (omega (arith, length-take-le input_most file k)) ∙ sym (same file (omega (arith, l)))
    go false e = ap f (take_all input_most file (ltb-false input_most (length file) e))
