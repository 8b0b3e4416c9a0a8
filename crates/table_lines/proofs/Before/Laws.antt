-- In a file in which every carriage return stands before a line feed, the line at every offset is the one that was there before request
-- 1/13 (`as_before`).
use Rattle.std.specs.Prelude.{◌≡◌, refl, Bool, true, false, ◌&&◌, List, [], ◌∷◌, ℕ, suc, ◌+◌, get_or, drop, eqb}
use Rattle.std.proofs.Common.{sym, ap, ◌∙◌, arith, length-drop, get_or-drop, eqb-true, eq-eqb}
use Rattle.std.proofs.lemmas.Bool.{eqb-false}
use Rattle.table_lines.specs.Lines.{feeds, line, longer, line_of}
use Rattle.table_lines.proofs.Lines.Laws.{returned-fed, end-feed, end-return, end_none, line-none, line-end, line_on}
use Rattle.table_lines.specs.Before.{line_before, ReturnsFed}

-- computed: where a carriage return stands alone, the old rule had one line
cases : (line_before (88 ∷ 13 ∷ 10 ∷ 46 ∷ []) ≡ line 1 3) × (line_before (88 ∷ 13 ∷ 46 ∷ 10 ∷ []) ≡ line 3 4) × (line_before (88 ∷ 13 ∷ []) ≡ line 2 2)
unfolding line_before
cases = (refl, refl, refl)

first-before : (bs : List ℕ) → ReturnsFed bs → line_of bs ≡ line_before bs
unfolding line_before
first-before [] h = line-none
first-before (b ∷ bs) h = go (eqb b 10) (eqb b 13) refl refl (first-before bs λ i l. h (suc i) (omega arith))
  where
    fed : (cs : List ℕ) → get_or cs 0 0 ≡ 10 → feeds cs ≡ true
    fed [] e = absurd (omega arith)
    fed (c ∷ cs) e = eq-eqb c 10 e

    go : (t u : Bool) → eqb b 10 ≡ t → eqb b 13 ≡ u → line_of bs ≡ line_before bs
        → line_of (b ∷ bs) ≡ elim t [ true ↦ line 0 1 | false ↦ elim (u && feeds bs) [ true ↦ line 0 2 | false ↦ longer (line_before bs) ] ]
    go true u e f on =
        let s = end-feed b bs (eqb-true _ _ e) in
        line-end (b ∷ bs) (λ z. absurd (omega arith)) ∙ ap (line 0) s
    go false true e f on =
        let r = eqb-true _ _ f in
        let w = fed bs (h 0 (omega arith) r) in
        let s = end-return b bs r ∙ returned-fed bs w in
        line-end (b ∷ bs) (λ z. absurd (omega arith)) ∙ ap (line 0) s ∙ rw w
    go false false e f on =
        line_on b bs (end_none b bs (eqb-false _ _ e, eqb-false _ _ f)) ∙ ap longer on

pub as_before : (file : List ℕ) → ReturnsFed file → (at : ℕ) → line_of (drop at file) ≡ line_before (drop at file)
as_before file h at =
    first-before (drop at file) λ i l e.
    let k : suc (at + i) ≡ at + suc i = omega arith in
    get_or-drop at file (suc i) 0 ∙ ap (λ j. get_or file j 0) (sym k) ∙ h (at + i) (omega (arith, length-drop at file)) (sym (get_or-drop at file i 0) ∙ e)
