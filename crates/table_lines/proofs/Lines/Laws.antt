-- What a line end is (`end_is`, `end-only`), and how the first line moves along the bytes (`line-end`, `line_on`): it lies inside the
-- bytes and takes at least one of them, and none of its bytes is a line feed or a carriage return (`no-end-byte`, `bytes-no-end`).
-- Nothing but the rule meets that: bytes without those, and then an end, are the line that is found (`line-ended`, `last_line`).
use Rattle.std.specs.Prelude.{◌≡◌, refl, Bool, true, false, List, [], ◌∷◌, ◌++◌, ℕ, zero, suc, ◌+◌, ◌≤◌, ◌<◌, length, get_or, take, drop, eqb}
use Rattle.std.proofs.Common.{sym, ap, ◌∙◌, inl, inr, arith, length-drop, drop_of_length-le, length-take-le, drop-cons, drop-drop}
use Rattle.std.proofs.lemmas.Bool.{false≢true}
use mathlib.Core.List.Memᴰ
use borrow.Author.Tests.{eqb-true, eqb-false, eq-eqb, ne_eqb}
use Rattle.theory.specs.Lists.{All}
use Rattle.theory.proofs.Lists.Laws.{all_nil, all_cons, all_drop}
use Rattle.table_lines.specs.declared.Line.{Line}
use Rattle.table_lines.specs.Lines.{line_feed, carriage_return, feeds, returned, end_of, IsEnd, NoEnd, line, longer, line_of, bytes_at, after, skipped}

-- the line ends, computed: a line feed; a carriage return and a line feed; a carriage return alone, before a byte and before another
-- carriage return; an empty line before a carriage return and a line feed, and before a line feed that a carriage return follows; a
-- carriage return at the end of the file; the end of the file; and the bytes of a last line without an end
ends : (line_of (88 ∷ 10 ∷ 46 ∷ []) ≡ line 1 2)
    × (line_of (88 ∷ 13 ∷ 10 ∷ 46 ∷ []) ≡ line 1 3)
    × (line_of (88 ∷ 13 ∷ 46 ∷ []) ≡ line 1 2)
    × (line_of (88 ∷ 13 ∷ 13 ∷ 10 ∷ []) ≡ line 1 2)
    × (line_of (13 ∷ 10 ∷ 46 ∷ []) ≡ line 0 2)
    × (line_of (10 ∷ 13 ∷ 46 ∷ []) ≡ line 0 1)
    × (line_of (88 ∷ 13 ∷ []) ≡ line 1 2)
    × (line_of (88 ∷ 46 ∷ []) ≡ line 2 2)
    × (bytes_at (88 ∷ 13 ∷ 46 ∷ []) 2 ≡ 46 ∷ [])
unfolding line_of
ends = (refl, refl, refl, refl, refl, refl, refl, refl, refl)

-- a line is its two numbers
pub line_same : (l : Line) (m n : ℕ) → m ≡ l.size → n ≡ l.step → line m n ≡ l
line_same l m n e f = ap (λ k. line k n) e ∙ ap (line l.size) f

-- ---- a line end

module _ (bs : List ℕ) where
  pub returned-fed : feeds bs ≡ true → returned bs ≡ 2
  returned-fed f = rw (f, returned)

  pub returned-alone : feeds bs ≡ false → returned bs ≡ 1
  returned-alone f = rw (f, returned)

module _ (b : ℕ) (bs : List ℕ) where
  pub end-feed : b ≡ 10 → end_of (b ∷ bs) ≡ 1
  end-feed e = rw (eq-eqb b 10 e, end_of)

  pub end-return : b ≡ 13 → end_of (b ∷ bs) ≡ returned bs
  end-return e = rw (ne_eqb b 10 (λ z. absurd (omega arith)), eq-eqb b 13 e, end_of)

  pub end_none : NoEnd b → end_of (b ∷ bs) ≡ 0
  end_none n = rw (ne_eqb b 10 n.0, ne_eqb b 13 n.1, end_of)

  -- what holds in each of the four cases holds of the end
  pub end-cases : (P : ℕ → Type 0) → (b ≡ 10 → P 1) → (b ≡ 13 → feeds bs ≡ true → P 2) → (b ≡ 13 → feeds bs ≡ false → P 1)
      → (NoEnd b → P 0) → P (end_of (b ∷ bs))
  end-cases P f g h i = go (eqb b line_feed) (eqb b carriage_return) (feeds bs) refl refl refl
    where
      go : (t u v : Bool) → eqb b line_feed ≡ t → eqb b carriage_return ≡ u → feeds bs ≡ v
          → P (elim t [ true ↦ 1 | false ↦ elim u [ true ↦ elim v [ true ↦ 2 | false ↦ 1 ] | false ↦ 0 ] ])
      go true u v e r w = f (eqb-true _ _ e)
      go false true true e r w = g (eqb-true _ _ r) w
      go false true false e r w = h (eqb-true _ _ r) w
      go false false v e r w = i (eqb-false _ _ e, eqb-false _ _ r)

feeds-some : (bs : List ℕ) → feeds bs ≡ true → 1 ≤ length bs
feeds-some [] e = absurd (false≢true e)
feeds-some (b ∷ bs) e = omega arith

pub end-inside : (bs : List ℕ) → end_of bs ≤ length bs
end-inside [] = omega arith
end-inside (b ∷ bs) =
    end-cases b bs (λ k. k ≤ suc (length bs)) (λ e. omega arith) (λ e f. omega (arith, feeds-some bs f)) (λ e f. omega arith) (λ n. omega arith)

-- where an end stands it is one of the three, and where one of the three stands it is found
pub end_is : (bs : List ℕ) → (end_of bs ≡ 0 → ⊥) → IsEnd (take (end_of bs) bs) (drop (end_of bs) bs)
end_is [] h = absurd (h refl)
end_is (b ∷ bs) h =
    end-cases b bs (λ k. (k ≡ 0 → ⊥) → IsEnd (take k (b ∷ bs)) (drop k (b ∷ bs))) (λ e i. inl (rw e)) (λ e f i. inr (inl (both bs e f)))
    (λ e f i. inr (inr (rw e, f))) (λ n i. absurd (i refl)) h
  where
    both : (cs : List ℕ) → b ≡ 13 → feeds cs ≡ true → b ∷ take 1 cs ≡ 13 ∷ 10 ∷ []
    both [] e f = absurd (false≢true f)
    both (c ∷ cs) e f = rw (e, eqb-true c 10 f)

pub end-only : (e behind : List ℕ) → IsEnd e behind → end_of (e ++ behind) ≡ length e
end-only e behind (inl p) = rw p (end-feed 10 behind refl)
end-only e behind (inr (inl p)) = rw p (end-return 13 (10 ∷ behind) refl)
end-only e behind (inr (inr (p, f))) = rw p (end-return 13 behind refl ∙ returned-alone behind f)

pub end-some : (e behind : List ℕ) → IsEnd e behind → 0 < length e
end-some e behind (inl p) = omega (arith, ap length p)
end-some e behind (inr (inl p)) = omega (arith, ap length p)
end-some e behind (inr (inr (p, f))) = omega (arith, ap length p)

end-byte : (b : ℕ) (bs : List ℕ) → end_of (b ∷ bs) ≡ 0 → NoEnd b
end-byte b bs z =
    end-cases b bs (λ k. k ≡ 0 → NoEnd b) (λ e y. absurd (omega arith)) (λ e f y. absurd (omega arith)) (λ e f y. absurd (omega arith))
    (λ n y. n) z

-- ---- the line of a byte and the bytes behind it

pub line-none : line_of [] ≡ line 0 0
unfolding line_of
line-none = refl

pub line-end : (bs : List ℕ) → (end_of bs ≡ 0 → ⊥) → line_of bs ≡ line 0 (end_of bs)
unfolding line_of
line-end [] h = absurd (h refl)
line-end (b ∷ bs) h = rw (line_of, ne_eqb (end_of (b ∷ bs)) 0 h)

module _ (b : ℕ) (bs : List ℕ) where
  pub line_on : end_of (b ∷ bs) ≡ 0 → line_of (b ∷ bs) ≡ longer (line_of bs)
  unfolding line_of
  line_on e = rw (line_of, eq-eqb (end_of (b ∷ bs)) 0 e)

  -- what holds where an end stands, and where none does, holds of the line
  pub line-cases : (P : Line → Type 0) → ((end_of (b ∷ bs) ≡ 0 → ⊥) → P (line 0 (end_of (b ∷ bs))))
      → (end_of (b ∷ bs) ≡ 0 → P (longer (line_of bs))) → P (line_of (b ∷ bs))
  line-cases P f g = go (eqb (end_of (b ∷ bs)) 0) refl
    where
      go : (t : Bool) → eqb (end_of (b ∷ bs)) 0 ≡ t → P (line_of (b ∷ bs))
      go true e = let z = eqb-true _ _ e in rw (line_on z) (g z)
      go false e = let z = eqb-false _ _ e in rw (line-end (b ∷ bs) z) (f z)

-- ---- the line lies inside the bytes

pub step-inside : (bs : List ℕ) → (line_of bs).step ≤ length bs
unfolding line_of
step-inside [] = omega arith
step-inside (b ∷ bs) =
    line-cases b bs (λ l. l.step ≤ suc (length bs)) (λ h. end-inside (b ∷ bs)) (λ e. omega (arith, step-inside bs))

pub size-inside : (bs : List ℕ) → (line_of bs).size ≤ (line_of bs).step
unfolding line_of
size-inside [] = omega arith
size-inside (b ∷ bs) = line-cases b bs (λ l. l.size ≤ l.step) (λ h. omega arith) (λ e. omega (arith, size-inside bs))

pub step-moves : (b : ℕ) (bs : List ℕ) → 0 < (line_of (b ∷ bs)).step
step-moves b bs = line-cases b bs (λ l. 0 < l.step) (λ h. omega (arith, h)) (λ e. omega arith)

-- ---- the line's bytes

-- no byte of a line is a line feed or a carriage return
pub no-end-byte : (bs : List ℕ) → All NoEnd (take (line_of bs).size bs)
unfolding line_of
no-end-byte [] = all_nil _
no-end-byte (b ∷ bs) =
    line-cases b bs (λ l. All NoEnd (take l.size (b ∷ bs))) (λ h. all_nil _) (λ e. all_cons (end-byte b bs e) (no-end-byte bs))

-- bytes of which none is one of an end, and then an end, or nothing more: that is the line
pub line-ended : (l e behind : List ℕ) → All NoEnd l → IsEnd e behind → line_of (l ++ (e ++ behind)) ≡ line (length l) (length l + length e)
line-ended [] e behind h p =
    let o = end-only e behind p in
    let n : end_of (e ++ behind) ≡ 0 + length e = omega (arith, o) in
    line-end (e ++ behind) (λ z. absurd (omega (arith, end-some e behind p))) ∙ ap (line 0) n
line-ended (b ∷ l) e behind h p =
    let n : suc (length l + length e) ≡ suc (length l) + length e = omega arith in
    line_on b (l ++ (e ++ behind)) (end_none b (l ++ (e ++ behind)) (h b (Memᴰ.head refl)))
    ∙ ap longer (line-ended l e behind (all_drop (b ∷ []) l h) p)
    ∙ ap (line (suc (length l))) n

pub last_line : (l : List ℕ) → All NoEnd l → line_of l ≡ line (length l) (length l)
last_line [] h = line-none
last_line (b ∷ l) h =
    line_on b l (end_none b l (h b (Memᴰ.head refl))) ∙ ap longer (last_line l (all_drop (b ∷ []) l h))

-- what is left behind a line's bytes is its end
line-left : (bs : List ℕ) → (line_of (drop (line_of bs).size bs)).step + (line_of bs).size ≡ (line_of bs).step
line-left [] = rw (line-none, line-none)
line-left (b ∷ bs) =
    line-cases b bs (λ l. l ≡ line_of (b ∷ bs) → (line_of (drop l.size (b ∷ bs))).step + l.size ≡ l.step)
    (λ h s. omega (arith, ap (λ (l : Line). l.step) s)) (λ e s. omega (arith, line-left bs)) refl

-- ---- the line at an offset of a file

module _ (file : List ℕ) (at : ℕ) where
  pub bytes-length : length (bytes_at file at) ≡ (line_of (drop at file)).size
  bytes-length = length-take-le _ (drop at file) (omega (arith, size-inside (drop at file), step-inside (drop at file)))

  pub bytes_inside : at ≤ length file → at + (line_of (drop at file)).size ≤ length file
  bytes_inside h =
      omega (arith, size-inside (drop at file), step-inside (drop at file), length-drop at file)

  -- so no byte of a title, a name or a line of marks is a line feed or a carriage return
  pub bytes-no-end : All NoEnd (bytes_at file at)
  bytes-no-end = no-end-byte (drop at file)

  pub after-inside : at ≤ length file → after file at ≤ length file
  after-inside h = omega (arith, step-inside (drop at file), length-drop at file)

  pub after-moves : at < length file → at < after file at
  after-moves h = rw (drop-cons file at 0 h) (omega (arith, step-moves (get_or file at 0) (drop (suc at) file)))

  -- the next line begins where it does behind the line's bytes
  pub after-end : after file (at + (line_of (drop at file)).size) ≡ after file at
  after-end = rw (sym (drop-drop (line_of (drop at file)).size at file)) (omega (arith, line-left (drop at file)))

  -- at the end of the file there is no line
  pub bytes_past : length file ≤ at → bytes_at file at ≡ []
  bytes_past h = rw (drop_of_length-le file {i = at} h, line-none)

  pub after-past : length file ≤ at → after file at ≡ at
  after-past h = rw (drop_of_length-le file {i = at} h, line-none) (omega arith)

pub skipped-inside : (k : ℕ) (file : List ℕ) (at : ℕ) → at ≤ length file → skipped k file at ≤ length file
unfolding skipped
skipped-inside zero file at h = h
skipped-inside (suc k) file at h = skipped-inside k file (after file at) (after-inside file at h)

-- one line further on
pub skipped-suc : (k : ℕ) (file : List ℕ) (at : ℕ) → skipped (suc k) file at ≡ after file (skipped k file at)
unfolding skipped
skipped-suc zero file at = refl
skipped-suc (suc k) file at = skipped-suc k file (after file at)
