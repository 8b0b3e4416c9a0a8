-- Reading a file finds a layout just where the file opens as a table with that layout (`finds-table`); an opened table is then opened as
-- its file is (`as-found`), and is refused with 3 otherwise (`as-other`).
use Rattle.std.specs.Prelude.{◌≡◌, refl, Bool, true, false, List, [], ◌∷◌, ℕ, eqb, ◌↔◌, get_or, Result, Ok, Err}
use Rattle.std.proofs.Common.{ap, ap₂, arith, eq-eqb, eqb-true}
use Rattle.std.proofs.Math.Bool.{and-eq-true_iff}
use Rattle.std.proofs.lemmas.Bool.{false≢true}
use Rattle.session.specs.declared.Refusal.{Refusal}
use Rattle.session.specs.Refusals.{refusal}
use Rattle.table_layout.specs.Layout.{layout, opened_of}
use Rattle.table_layout.specs.declared.Layout.{Layout}
use Rattle.found_layout.specs.Found.{fields_of, same_numbers, equal_layouts, found_in, finds, opened_as}

same-numbers : (ms ns : List ℕ) → same_numbers ms ns ≡ true → ms ≡ ns
same-numbers [] [] e = refl
same-numbers [] (n ∷ ns) e = absurd (false≢true e)
same-numbers (m ∷ ms) [] e = absurd (false≢true e)
same-numbers (m ∷ ms) (n ∷ ns) e =
    let t = (and-eq-true_iff (eqb m n) (same_numbers ms ns)).0 e in
    ap₂ ◌∷◌ (eqb-true _ _ t.0) (same-numbers ms ns t.1)

numbers-same : (ns : List ℕ) → same_numbers ns ns ≡ true
numbers-same [] = refl
numbers-same (n ∷ ns) = rw (eq-eqb n n refl) (numbers-same ns)

-- a layout is its numbers
same_layout : (a b : Layout) → equal_layouts a b ≡ true → a ≡ b
same_layout a b e = ap from (same-numbers (fields_of a) (fields_of b) e)
  where
    from : List ℕ → Layout
    from ns = layout (get_or ns 0 0) (get_or ns 1 0) (get_or ns 2 0) (get_or ns 3 0) (get_or ns 4 0)

module _ (file : List ℕ) (l : Layout) where
  pub finds-table : (finds file l ≡ true) ↔ (opened_of file ≡ Ok l)
  finds-table = (found (opened_of file), λ e. rw e (numbers-same (fields_of l)))
    where
      found : (o : Result Layout Refusal) → found_in o l ≡ true → o ≡ Ok l
      found (Ok x) e = rw (same_layout x l e)
      found (Err r) e = absurd (false≢true e)

-- ---- an opened table

module _ (l : Layout) where
  pub as_same : (x : Layout) → equal_layouts x l ≡ true → opened_as l (Ok x) ≡ Ok x
  as_same x e = rw (opened_as, e)

  pub as-other : (x : Layout) → equal_layouts x l ≡ false → opened_as l (Ok x) ≡ Err (refusal 3 0)
  as-other x e = rw (opened_as, e)

  -- a layout found is the file's
  pub as-layout : (o : Result Layout Refusal) (x : Layout) → opened_as l o ≡ Ok x → o ≡ Ok x
  as-layout (Ok y) x e = go (equal_layouts y l) e
    where
      go : (b : Bool) → elim b as (λ z. Result Layout Refusal) [ true ↦ Ok y | false ↦ Err (refusal 3 0) ] ≡ Ok x → ◌≡◌ {A = Result Layout Refusal} (Ok y) (Ok x)
      go true f = f
      go false f = let n : ◌≡◌ {A = ℕ} 0 1 = cc in absurd (omega arith)
  as-layout (Err r) x e = e

  pub as-found : (o : Result Layout Refusal) → found_in o l ≡ true → opened_as l o ≡ o
  as-found (Ok x) e = as_same x e
  as-found (Err r) e = refl
