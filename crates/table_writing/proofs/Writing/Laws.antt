-- What is answered and what the output holds then, computed (`cases`, `lengths`, `outputs`), and for every table: the first check that fails
-- decides (`rows-refused`, `name-refused`, `long-refused`) and the output is kept (`refuses`), and where none does the answer is the number of bytes (`all-written`). Where the check of the names passes,
-- there are as many as are needed and they are small (`names_fine`, `names-fit`), so that the number of bytes is known before the first one
-- is written. Bytes are answered just where every check passes (`bytes-checked`).
use Rattle.std.specs.Prelude.{◌≡◌, refl, Bool, true, false, List, [], ◌∷◌, ℕ, zero, suc, ◌+◌, ◌*◌, ◌≤◌, ◌<◌, length, take, replicate, eqb, ltb, leb, Ok, Err, Result}
use Rattle.std.proofs.Common.{sym, ◌∙◌, true≢false, arith, lt-ltb, le-ltb, ltb-true, ltb-false, leb-true, eqb-true}
use Rattle.std.proofs.Math.Path.{ap}
use Rattle.std.proofs.Math.Bool.{and-eq-true_iff, or-true}
use Rattle.std.proofs.Math.Option.{Option, none, some}
use Rattle.std.proofs.lemmas.Bool.{eqb-false}
use Rattle.session.specs.declared.Refusal.{Refusal}
use Rattle.session.specs.Refusals.{refusal}
use Rattle.session.specs.Limits.{bad_length}
use Rattle.implication.specs.Pairs.{pairs}
use Rattle.context.specs.Places.{lowest, anywhere}
use Rattle.context.specs.Objects.{marked_twice}
use Rattle.attribute_set.specs.Sets.{inside, full, meets}
use Rattle.text.specs.Text.{digits}
use Rattle.marks_text.specs.Marks.{marks_text}
use Rattle.table_lines.specs.Lines.{line_of, bytes_at, after}
use Rattle.table_lines.specs.Pieces.{lines_of, pieces_from}
use Rattle.table_kinds.specs.declared.Kind.{Kind}
use Rattle.table_kinds.specs.declared.Kind.TheVariants.{Name}
use Rattle.line_tests.specs.Tests.{most_name_bytes, refuse_unless, is_name}
use Rattle.line_tests.proofs.Tests.Laws.{unless-fine}
use Rattle.line_faults.specs.Faults.{fault}
use Rattle.line_walk.specs.Walk.{line_fault, walk}
use Rattle.line_walk.proofs.OfWalk.Laws.{fault-there, fault-missing, walk-passed, walk-failed}
use Rattle.table_walk.specs.Walk.{place_of, Passes}
use Rattle.table_walk.proofs.Walk.Lines.{Fine, passes-fine, fine-taken}
use Rattle.table_layout.specs.Layout.{most_bytes}
use Rattle.closed_lines.specs.Closed.{closed, bytes_in, first_lines}
use Rattle.machine.specs.Checks.{Check, check, first_failing, strange}
use Rattle.machine.proofs.Checks.Laws.{or-false, passed, failing-nothing, failing-here, failing-later, failing-append, failing-first, passed-append, none-failing}
use Rattle.row_checks.specs.Rows.{row_checks}
use Rattle.table_text.specs.Table.{text_of}
use Rattle.table_writing.specs.Writing.{names_walk, is_failed, is_long, write_checks, RowsPass, NamesPass, written_by, writing, output_after, WritesFrom}

-- computed: no rows and one property, and what refuses it: an output that is too short, no name, a name too few, an empty one; and a row
-- that is refused before all of that
cases : (writing 1 0 [] (112 ∷ []) 10 ≡ Ok 10)
    × (writing 1 0 [] (112 ∷ []) 9 ≡ Err (refusal 30 0))
    × (writing 1 0 [] [] 9 ≡ Err (refusal 26 0))
    × (writing 2 0 [] (112 ∷ 10 ∷ []) 9 ≡ Err (refusal 26 2))
    × (writing 2 0 [] (112 ∷ 10 ∷ 10 ∷ []) 9 ≡ Err (refusal 26 2))
    × (writing 2 2 (1 ∷ 0 ∷ 1 ∷ 1 ∷ []) [] 0 ≡ Err (refusal 5 1))
unfolding write_checks row_checks first_failing bad_length anywhere lowest marked_twice meets strange inside full pairs walk line_fault fault closed marks_text digits pieces_from line_of
cases = (refl, refl, refl, refl, refl, refl)

-- computed: the longest text of all, and one byte more; the longest that an output has room for, and one byte more
lengths : (is_long 65536 65535 ≡ false) × (is_long 65536 65536 ≡ true) × (is_long 9 9 ≡ false) × (is_long 9 10 ≡ true)
lengths = (refl, refl, refl, refl)

-- computed: a text stands at the start of the output, with the bytes behind it as they were; a refusal leaves every byte
outputs : (output_after (Ok 2) (66 ∷ 10 ∷ []) (1 ∷ 2 ∷ 3 ∷ []) ≡ 66 ∷ 10 ∷ 3 ∷ [])
    × (output_after (Err (refusal 30 0)) (66 ∷ 10 ∷ []) (1 ∷ 2 ∷ 3 ∷ []) ≡ 1 ∷ 2 ∷ 3 ∷ [])
outputs = (refl, refl)

-- which texts are long
module _ (room size : ℕ) where
  pub long-file : most_bytes < size → is_long room size ≡ true
  long-file h = rw (lt-ltb most_bytes size h)

  pub long-output : room < size → is_long room size ≡ true
  long-output h = rw (lt-ltb room size h) (or-true (ltb most_bytes size))

  pub short-both : size ≤ most_bytes → size ≤ room → is_long room size ≡ false
  short-both h k = rw (le-ltb most_bytes size h, le-ltb room size k)

-- ---- what passed checks give

-- a name has at most 80 bytes
names-small : (k : ℕ) (ls : List (List ℕ)) → Fine (replicate k Name) ls → bytes_in (take k ls) ≤ most_name_bytes * k
unfolding bytes_in fault
names-small zero ls f = omega arith
names-small (suc k) [] f = absurd f
names-small (suc k) (l ∷ ls) f =
    let short : length l ≤ most_name_bytes = leb-true _ _ ((and-eq-true_iff (ltb 0 (length l)) (leb (length l) most_name_bytes)).0 (unless-fine _ 25 f.0)).1 in
    omega (arith, short, names-small k ls f.1)

walk-passes : (w : Result ℕ Refusal) → is_failed w ≡ false → Passes w
walk-passes (Ok at) e = tt
walk-passes (Err r) e = absurd (true≢false e)

module _ (n used : ℕ) (names : List ℕ) (e : NamesPass n used names) where
  pub names_fine : Fine (replicate (used + n) Name) (lines_of names)
  names_fine = passes-fine names (replicate (used + n) Name) 0 (walk-passes (names_walk n used names) e)

  -- there are as many as are needed
  pub names-fit : (length (first_lines (used + n) names) ≡ used + n) × (bytes_in (first_lines (used + n) names) ≤ most_name_bytes * (used + n))
  names-fit = ((fine-taken Name (used + n) (lines_of names) names_fine).0, names-small (used + n) (lines_of names) names_fine)

-- ---- a name that is refused has 26

unless-26 : (b : Bool) → (refuse_unless b 26 ≡ 0 → ⊥) → refuse_unless b 26 ≡ 26
unless-26 true h = absurd (h refl)
unless-26 false h = refl

name-fault : (names : List ℕ) (at : ℕ) → (line_fault Name names at ≡ 0 → ⊥) → line_fault Name names at ≡ 26
unfolding fault
name-fault names at h = go (ltb at (length names)) refl
  where
    there : (e : line_fault Name names at ≡ refuse_unless (is_name (bytes_at names at)) 26) → line_fault Name names at ≡ 26
    there e = e ∙ unless-26 (is_name (bytes_at names at)) (λ z. h (e ∙ z))

    go : (t : Bool) → ltb at (length names) ≡ t → line_fault Name names at ≡ 26
    go true t = there (fault-there names Name at (ltb-true _ _ t))
    go false t = fault-missing names Name at (ltb-false _ _ t)

abbrev number_of : Result ℕ Refusal → ℕ
number_of (Ok at) = 26
number_of (Err r) = r.number

name-number : (k : ℕ) (names : List ℕ) (at : ℕ) → number_of (walk (replicate k Name) names at) ≡ 26
unfolding walk
name-number zero names at = refl
name-number (suc k) names at = go (eqb (line_fault Name names at) 0) refl (name-number k names (after names at))
  where
    ks : List Kind
    ks = replicate k Name

    go : (t : Bool) → eqb (line_fault Name names at) 0 ≡ t → number_of (walk ks names (after names at)) ≡ 26
        → number_of (walk (Name ∷ ks) names at) ≡ 26
    go true t on = ap number_of (walk-passed names Name at ks (eqb-true _ _ t)) ∙ on
    go false t on =
        let h : line_fault Name names at ≡ 0 → ⊥ = eqb-false _ _ t in
        ap number_of (walk-failed names Name at ks h) ∙ name-fault names at h

-- ---- which check decides

module _ (n used : ℕ) (words names : List ℕ) (room : ℕ) where
  abbrev size : ℕ
  size = length (text_of n used words names)

  abbrev name_check : Check
  name_check = check 26 (is_failed (names_walk n used names)) (place_of (names_walk n used names))

  abbrev size_check : Check
  size_check = check 30 (is_long room size) 0

  pub rows-refused : (r : Refusal) → first_failing (row_checks n used words) ≡ some r → writing n used words names room ≡ Err r
  unfolding write_checks
  rows-refused r e = ap (λ o. written_by o size) (failing-first (row_checks n used words) (name_check ∷ size_check ∷ []) r e)

  module _ (rows : RowsPass n used words) where
    later : first_failing (write_checks n used words names room) ≡ first_failing (name_check ∷ size_check ∷ [])
    unfolding write_checks
    later = failing-append (row_checks n used words) (name_check ∷ size_check ∷ []) (passed (row_checks n used words) rows)

    pub name-refused : (r : Refusal) → names_walk n used names ≡ Err r → writing n used words names room ≡ Err r
    name-refused r e =
        let k : r.number ≡ 26 = sym (ap number_of e) ∙ name-number (used + n) names 0 in
        ap (λ o. written_by o size) (later ∙ failing-here name_check (size_check ∷ []) (ap is_failed e)
        ∙ ap (λ (p : ℕ). some (refusal 26 p)) (ap place_of e))
        ∙ ap (λ (m : ℕ). Err (refusal m r.place)) (sym k)

    module _ (named : NamesPass n used names) where
      last : first_failing (write_checks n used words names room) ≡ first_failing (size_check ∷ [])
      last = later ∙ failing-later name_check (size_check ∷ []) named

      pub long-refused : is_long room (length (text_of n used words names)) ≡ true → writing n used words names room ≡ Err (refusal 30 0)
      long-refused e = ap (λ o. written_by o size) (last ∙ failing-here size_check [] e)

      pub all-written : is_long room (length (text_of n used words names)) ≡ false → writing n used words names room ≡ Ok size
      all-written e = ap (λ o. written_by o size) (last ∙ failing-later size_check [] e ∙ failing-nothing)

-- a refusal keeps every byte of the output
pub refuses : (n used : ℕ) (words names out : List ℕ) (x : Result ℕ Refusal) (r : Refusal) → x ≡ Err r → writing n used words names (length out) ≡ Err r
    → WritesFrom n used words names out x out
refuses n used words names out x r e h = record { answer = e ∙ sym h; output = rw e refl }

-- ---- where bytes are answered

answered : (o : Option Refusal) (size length : ℕ) → Ok size ≡ written_by o length → (o ≡ none) × (length ≡ size)
answered none size length e = (refl, cc)
answered (some r) size length e = let z : ◌≡◌ {A = ℕ} 0 1 = cc in absurd (omega arith)

-- every check passes, and the answer is the number of bytes of the text
pub record BytesChecked (n used : ℕ) (words names : List ℕ) (room size : ℕ) : Type 0 where
  pub rows : RowsPass n used words
  pub named : NamesPass n used names
  pub whole : length (text_of n used words names) ≡ size
  pub short : size ≤ most_bytes
  pub fits : size ≤ room

pub bytes-checked : (n used : ℕ) (words names : List ℕ) (room size : ℕ) → Ok size ≡ writing n used words names room
    → BytesChecked n used words names room size
unfolding write_checks
bytes-checked n used words names room size e =
    let text = length (text_of n used words names) in
    let a = answered (first_failing (write_checks n used words names room)) size text e in
    let p = passed-append (row_checks n used words) _ a.0 in
    let l = or-false (ltb most_bytes text) (ltb room text) p.1.1.0 in
    record {
      rows = none-failing (row_checks n used words) p.0;
      named = p.1.0;
      whole = a.1;
      short = omega (arith, a.1, ltb-false most_bytes text l.0);
      fits = omega (arith, a.1, ltb-false room text l.1);
    }
