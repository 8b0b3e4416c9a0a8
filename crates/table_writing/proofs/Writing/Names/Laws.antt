-- What check 26 tests: of the lines needed, each is a name (`names-good`), or the refusal names the first that is none, by its offset in the
-- lent names; where it is missing, by their length (`first-bad`).
use Rattle.std.specs.Prelude.{◌≡◌, refl, Bool, true, false, ◌&&◌, ◌⊎◌, List, [], get_or, replicate, eqb, ltb, leb, Result, Ok, Err}
use Rattle.std.proofs.Math.Path.{sym, ap}
use Rattle.std.proofs.Common.{subst, ◌∙◌, true≢false, inl, inr, arith, eqb-true, ltb-true, leb-true, lt-ltb, le-leb}
use Rattle.std.proofs.Math.Bool.{and-eq-true_iff}
use Prim.Native.Nat.{ℕ, zero, suc, ◌+◌, ◌≤◌, ◌<◌}
use Rattle.std.proofs.Math.ListN.{length}
use Rattle.std.proofs.lemmas.Bool.{eqb-false}
use Rattle.session.specs.declared.Refusal.{Refusal}
use Rattle.attribute_set.proofs.Sets.Laws.{lt-or-le}
use Rattle.table_lines.specs.Lines.{bytes_at, skipped}
use Rattle.table_lines.proofs.Lines.Laws.{skipped-suc}
use Rattle.table_lines.specs.Pieces.{lines_of}
use Rattle.table_lines.proofs.Pieces.Laws.{start-there, start-end, start-bytes}
use Rattle.table_kinds.specs.declared.Kind.TheVariants.{Name}
use Rattle.line_tests.specs.Tests.{most_name_bytes}
use Rattle.line_tests.proofs.Tests.Laws.{unless-fine}
use Rattle.line_faults.specs.Faults.{fault}
use Rattle.line_walk.specs.Walk.{line_fault, walk}
use Rattle.line_walk.proofs.OfWalk.Laws.{fault-there, walk-passed, walk-failed}
use Rattle.table_walk.proofs.Walk.Passed.{line-there}
use Rattle.table_writing.specs.Writing.{names_walk, is_failed, NamesPass}
use Rattle.table_writing.specs.Writing.Names.{GoodName, BadName, FirstBad}

-- a test of the length that passes, or fails
name-length : (n : ℕ) → (ltb 0 n && leb n most_name_bytes) ≡ true → (0 < n) × (n ≤ most_name_bytes)
name-length n e = let t = (and-eq-true_iff (ltb 0 n) (leb n most_name_bytes)).0 e in (ltb-true _ _ t.0, leb-true _ _ t.1)

module _ (names : List ℕ) (k : ℕ) where
  abbrev here : ℕ
  here = skipped k names 0

  good-line : k < length (lines_of names) → line_fault Name names here ≡ 0 → GoodName names k
  unfolding fault
  good-line h e =
      let f = sym (fault-there names Name here (start-there names k h)) ∙ e in
      let t = name-length (length (bytes_at names here)) (unless-fine _ 25 f) in
      let s = ap length (start-bytes names k h) in
      (h, omega (arith, s), omega (arith, s))

  bad-line : k < length (lines_of names) → (line_fault Name names here ≡ 0 → ⊥) → BadName names k
  unfolding fault
  bad-line h e = go (lt-or-le 0 m) (lt-or-le most_name_bytes m)
    where
      m : ℕ
      m = length (bytes_at names here)

      s : m ≡ length (get_or (lines_of names) k [])
      s = ap length (start-bytes names k h)

      go : (0 < m) ⊎ (m ≤ 0) → (most_name_bytes < m) ⊎ (m ≤ most_name_bytes) → BadName names k
      go (inr none) b = inr (inl (omega (arith, s)))
      go (inl some) (inl long) = inr (inr (omega (arith, s)))
      go (inl some) (inr few) =
          absurd (e (fault-there names Name here (start-there names k h) ∙ rw (lt-ltb 0 m some, le-leb m most_name_bytes few)))

-- ---- the walk over the names from line j on, where those before it are names

abbrev Before : List ℕ → ℕ → Type 0
Before names j = (i : ℕ) → i < j → GoodName names i

abbrev Found : List ℕ → ℕ → Result ℕ Refusal → Type 0
Found names count (Ok at) = Before names count
Found names count (Err r) = (k : ℕ) × FirstBad names count k r.place

one_more : (names : List ℕ) (j : ℕ) → Before names j → GoodName names j → Before names (suc j)
one_more names j b g i h = go (lt-or-le i j)
  where
    go : (i < j) ⊎ (j ≤ i) → GoodName names i
    go (inl l) = b i l
    go (inr l) =
        let e : j ≡ i = omega arith in
        subst (GoodName names) e g

-- a line that is no name is refused, where it is missing and where it is there
line-bad : (names : List ℕ) (count j : ℕ) → j < count → Before names j → (line_fault Name names (skipped j names 0) ≡ 0 → ⊥)
    → FirstBad names count j (skipped j names 0)
line-bad names count j h b e = record {
  needed = h;
  bad = go (lt-or-le j (length (lines_of names)));
  before = b;
  begins = refl;
  missing = λ l. start-end names j l;
}
  where
    go : (j < length (lines_of names)) ⊎ (length (lines_of names) ≤ j) → BadName names j
    go (inl l) = bad-line names j l e
    go (inr l) = inl l

line-good : (names : List ℕ) (j : ℕ) → line_fault Name names (skipped j names 0) ≡ 0 → GoodName names j
line-good names j e = go (lt-or-le j (length (lines_of names)))
  where
    go : (j < length (lines_of names)) ⊎ (length (lines_of names) ≤ j) → GoodName names j
    go (inl l) = good-line names j l e
    go (inr l) = absurd (omega (arith, (line-there names Name (skipped j names 0) e).0, start-end names j l))

walk-found : (names : List ℕ) (left j count : ℕ) → j + left ≡ count → Before names j
    → Found names count (walk (replicate left Name) names (skipped j names 0))
unfolding walk
walk-found names zero j count e b =
    let z : j ≡ count = omega arith in
    subst (Before names) z b
walk-found names (suc left) j count e b =
    go (eqb (line_fault Name names here') 0) refl (λ g. walk-found names left (suc j) count (omega arith) (one_more names j b g))
  where
    here' : ℕ
    here' = skipped j names 0

    go : (t : Bool) → eqb (line_fault Name names here') 0 ≡ t
        → (GoodName names j → Found names count (walk (replicate left Name) names (skipped (suc j) names 0)))
        → Found names count (walk (replicate (suc left) Name) names here')
    go true t on =
        let f = eqb-true (line_fault Name names here') 0 t in
        subst (Found names count)
        (ap (walk (replicate left Name) names) (skipped-suc j names 0) ∙ sym (walk-passed names Name here' (replicate left Name) f))
        (on (line-good names j f))
    go false t on =
        let f = eqb-false (line_fault Name names here') 0 t in
        subst (Found names count) (sym (walk-failed names Name here' (replicate left Name) f))
        (j, line-bad names count j (omega arith) b f)

module _ (n used : ℕ) (names : List ℕ) where
  names-found : Found names (used + n) (names_walk n used names)
  unfolding skipped
  names-found = walk-found names (used + n) 0 (used + n) (omega arith) (λ i h. absurd (omega arith))

  pub names-good : NamesPass n used names → (k : ℕ) → k < used + n → GoodName names k
  names-good e = go (names_walk n used names) e names-found
    where
      go : (w : Result ℕ Refusal) → is_failed w ≡ false → Found names (used + n) w → (k : ℕ) → k < used + n → GoodName names k
      go (Ok at) p f = f
      go (Err r) p f = absurd (true≢false p)

  pub first-bad : (r : Refusal) → names_walk n used names ≡ Err r → (k : ℕ) × FirstBad names (used + n) k r.place
  first-bad r e = subst (Found names (used + n)) e names-found
