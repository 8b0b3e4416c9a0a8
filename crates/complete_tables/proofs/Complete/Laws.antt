-- Computed cases (`cases`). The rows of a file that the complete opening accepts form a complete table: no mark is unknown, and none is marked both ways
-- (`complete-table`). It finds the layout that reading finds (`complete-layout`).
use Rattle.std.specs.Prelude.{◌≡◌, refl, Bool, true, false, not, ◌||◌, List, [], ◌∷◌, ◌++◌, ℕ, zero, suc, ◌<◌, ◌+◌, ◌*◌, ◌/◌, ◌%◌, min, max, length, replicate, Result, Ok, Err}
use Rattle.std.proofs.Common.{sym, ◌∙◌, ap, subst, arith, eqb-true, pow-suc, pow_pos}
use Rattle.std.proofs.Math.Bool.{and-eq-true_iff}
use Rattle.table_kinds.specs.declared.Kind.TheVariants.{Marks}
use Rattle.line_faults.specs.Faults.{fault}
use Rattle.session.specs.declared.Refusal.{Refusal}
use Rattle.session.specs.Refusals.{refusal}
use Rattle.table_lines.specs.Lines.{line_of, bytes_at, after}
use Rattle.table_layout.specs.Layout.{opened_of, layout_of}
use Rattle.line_walk.specs.Walk.{line_fault, walk}
use Rattle.table_walk.specs.Walk.{rest, Passes}
use Rattle.table_layout.specs.declared.Layout.{Layout}
use Rattle.table_walk.proofs.Walk.Passed.{line-there, passes-cons}
use Rattle.table_rows.specs.Rows.{bit_of, word_of, row_of, rows_from}
use Rattle.std.specs.Int.Bits.{bit_and, bit_or, and_step, or_step}
use Rattle.theory.proofs.Lists.Laws.{all_nil, all_cons}
use Rattle.attribute_set.specs.Sets.{full}
use Rattle.attribute_set.proofs.Sets.Laws.{and-apart}
use Rattle.context.specs.Tables.{Complete, Table}
use Rattle.table_bytes.specs.Bytes.{is_yes, is_no, is_unknown, is_known, is_mark}
use Rattle.line_bytes.specs.Everywhere.{everywhere}
use Rattle.table_counts.specs.Counts.{decimal_from, is_count, count_of}
use Rattle.line_bytes.proofs.Everywhere.Laws.{everywhere-cons}
use Rattle.table_layout.proofs.OfLayout.Passed.{table-marks}
use Rattle.table_rows.proofs.Rows.Laws.{bit-lt}
use Rattle.complete_tables.specs.Complete.{complete_from, complete_of, opened_complete}
use Rattle.line_faults.proofs.Faults.Laws.{marks_fine}

-- `B`, an empty title, two rows and one property with their names, and the marks `X` and `?`
abbrev unknown : List ℕ
unknown = 66 ∷ 10 ∷ 10 ∷ 50 ∷ 10 ∷ 49 ∷ 10 ∷ 10 ∷ 97 ∷ 10 ∷ 98 ∷ 10 ∷ 112 ∷ 10 ∷ 88 ∷ 10 ∷ 63 ∷ []

-- computed: 29 where the line begins that has an unknown mark; 28 comes before it
cases : (opened_complete unknown ≡ Err (refusal 29 16)) × (opened_complete (unknown ++ (10 ∷ 88 ∷ [])) ≡ Err (refusal 28 18))
unfolding complete_from opened_of layout_of walk rest line_fault fault is_count count_of decimal_from everywhere line_of
cases = (refl, refl)

-- ---- the first unknown mark

module _ (n : ℕ) (l : Layout) (file : List ℕ) (at : ℕ) where
  pub complete-on : everywhere is_known (bytes_at file at) ≡ true → complete_from (suc n) l file at ≡ complete_from n l file (after file at)
  unfolding complete_from
  complete-on e = rw (complete_from, e)

  pub complete-stop : everywhere is_known (bytes_at file at) ≡ false → complete_from (suc n) l file at ≡ Err (refusal 29 at)
  unfolding complete_from
  complete-stop e = rw (complete_from, e)

-- ---- a row

-- a mark that is not unknown is one of yes and no, and not both
mark-bits : (b : ℕ) → is_mark b ≡ true → is_known b ≡ true
    → (max (bit_of (is_yes b)) (bit_of (is_no b)) ≡ 1) × (min (bit_of (is_yes b)) (bit_of (is_no b)) ≡ 0)
mark-bits b m k = go (is_no b) refl
  where
    yes-left : (t u : Bool) → (t || (false || u)) ≡ true → not u ≡ true → t ≡ true
    yes-left true u m k = refl
    yes-left false true m k = cc
    yes-left false false m k = cc

    go : (t : Bool) → is_no b ≡ t → (max (bit_of (is_yes b)) (bit_of (is_no b)) ≡ 1) × (min (bit_of (is_yes b)) (bit_of (is_no b)) ≡ 0)
    go true e = rw (eqb-true b 46 e) (refl, refl)
    go false e =
        let y : is_yes b ≡ true = yes-left (is_yes b) (is_unknown b) (subst (λ t. (is_yes b || (t || is_unknown b)) ≡ true) e m) k in
        rw (y, e) (refl, refl)

-- one bit more
module _ (a c p q : ℕ) (hp : p < 2) (hq : q < 2) where
  or-bit : bit_or (a * 2 + p) (c * 2 + q) ≡ bit_or a c * 2 + max p q
  or-bit =
      let x : (a * 2 + p) / 2 ≡ a = omega arith in
      let y : (c * 2 + q) / 2 ≡ c = omega arith in
      let u : (a * 2 + p) % 2 ≡ p = omega arith in
      let v : (c * 2 + q) % 2 ≡ q = omega arith in
      or_step (a * 2 + p) (c * 2 + q) ∙ rw (x, y, u, v)

  and-bit : bit_and (a * 2 + p) (c * 2 + q) ≡ bit_and a c * 2 + min p q
  and-bit =
      let x : (a * 2 + p) / 2 ≡ a = omega arith in
      let y : (c * 2 + q) / 2 ≡ c = omega arith in
      let u : (a * 2 + p) % 2 ≡ p = omega arith in
      let v : (c * 2 + q) % 2 ≡ q = omega arith in
      and_step (a * 2 + p) (c * 2 + q) ∙ rw (x, y, u, v)

full-suc : (n : ℕ) → full n * 2 + 1 ≡ full (suc n)
unfolding full
full-suc n = rw pow-suc (omega (arith, pow_pos n))

-- marks of which none is unknown
row-marks : (bs : List ℕ) → everywhere is_mark bs ≡ true → everywhere is_known bs ≡ true
    → (bit_or (word_of is_yes bs) (word_of is_no bs) ≡ full (length bs)) × (bit_and (word_of is_yes bs) (word_of is_no bs) ≡ 0)
unfolding word_of full
row-marks [] m k = (refl, refl)
row-marks (b ∷ bs) m k =
    let x = (and-eq-true_iff (is_mark b) (everywhere is_mark bs)).0 (rw everywhere-cons at m) in
    let y = (and-eq-true_iff (is_known b) (everywhere is_known bs)).0 (rw everywhere-cons at k) in
    let t = mark-bits b x.0 y.0 in
    let h = row-marks bs x.1 y.1 in
    let p = bit-lt (is_yes b) in
    let q = bit-lt (is_no b) in (
      or-bit (word_of is_yes bs) (word_of is_no bs) (bit_of (is_yes b)) (bit_of (is_no b)) p q ∙ rw (h.0, t.0) (full-suc (length bs)),
      and-bit (word_of is_yes bs) (word_of is_no bs) (bit_of (is_yes b)) (bit_of (is_no b)) p q ∙ rw (h.1, t.1),
    )

complete-row : (n : ℕ) (bs : List ℕ) → length bs ≡ n → everywhere is_mark bs ≡ true → everywhere is_known bs ≡ true → Complete n (row_of bs)
complete-row n bs e m k =
    let t = row-marks bs m k in
    record { whole = t.0 ∙ ap full e; apart = and-apart (word_of is_yes bs) (word_of is_no bs) t.1 }

-- ---- the rows

-- the first line, and the lines behind it
complete-cons : (k : ℕ) (l l' : Layout) (file : List ℕ) (at : ℕ) → complete_from (suc k) l file at ≡ Ok l'
    → (everywhere is_known (bytes_at file at) ≡ true) × (complete_from k l file (after file at) ≡ Ok l')
complete-cons k l l' file at e = go (everywhere is_known (bytes_at file at)) refl
  where
    go : (t : Bool) → everywhere is_known (bytes_at file at) ≡ t
        → (everywhere is_known (bytes_at file at) ≡ true) × (complete_from k l file (after file at) ≡ Ok l')
    go true q = (q, sym (complete-on k l file at q) ∙ e)
    go false q =
        let f : Err (refusal 29 at) ≡ Ok l' = sym (complete-stop k l file at q) ∙ e in
        let z : ◌≡◌ {A = ℕ} 0 1 = cc in
        absurd (omega arith)

complete-same : (k : ℕ) (l l' : Layout) (file : List ℕ) (at : ℕ) → complete_from k l file at ≡ Ok l' → l ≡ l'
unfolding complete_from
complete-same zero l l' file at e = cc
complete-same (suc k) l l' file at e = complete-same k l l' file (after file at) (complete-cons k l l' file at e).1

complete-rows : (k n : ℕ) (l l' : Layout) (file : List ℕ) (at : ℕ) → Passes (walk (replicate k (Marks n)) file at)
    → complete_from k l file at ≡ Ok l' → Table n (rows_from k file at)
unfolding rows_from
complete-rows zero n l l' file at p e = all_nil _
complete-rows (suc k) n l l' file at p e =
    let x = passes-cons file (Marks n) (replicate k (Marks n)) at p in
    let y = complete-cons k l l' file at e in
    let m = marks_fine n (bytes_at file at) (line-there file (Marks n) at x.0).1 in
    all_cons (complete-row n (bytes_at file at) m.0 m.1 y.0) (complete-rows k n l l' file (after file at) x.1 y.1)

pub complete-layout : (file : List ℕ) (l : Layout) → complete_of file (opened_of file) ≡ Ok l → opened_of file ≡ Ok l
complete-layout file l = go (opened_of file)
  where
    go : (o : Result Layout Refusal) → complete_of file o ≡ Ok l → o ≡ Ok l
    go (Ok l') e = ap Ok (complete-same l'.objects l' l file l'.marks e)
    go (Err r) e = e

pub complete-table : (file : List ℕ) (l : Layout) → complete_of file (opened_of file) ≡ Ok l
    → Table l.attributes (rows_from l.objects file l.marks)
complete-table file l e =
    let o = complete-layout file l e in
    complete-rows l.objects l.attributes l l file l.marks (table-marks file l o).2 (subst (λ x. complete_of file x ≡ Ok l) o e)
