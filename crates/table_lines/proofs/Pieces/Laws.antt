-- What the lines of a file are. Their bytes with their ends are the file again (`pieces_whole`); no line has a byte of an end, each end is
-- one of the three, or nothing, at the end of the file alone (`pieces-lines`); and nothing but the rule meets both (`lines-only`). The
-- lines from the start of line i on are those of the file but the first i (`lines_left`); so there is a line i just if i is below the
-- number of lines (`start-there`, `start-end`), and it has its bytes (`start-bytes`). A file's last line may have any of the ends or none
-- (`last-line-end`).
use Rattle.std.specs.Prelude.{◌≡◌, Bool, ◌⊎◌, length, get_or, take, eqb}
use Rattle.std.proofs.Math.Path.{refl, sym, ap}
use Rattle.std.proofs.Common.{ap₂, ◌∙◌, inl, inr, arith, take-append-drop, length-drop, drop_of_length-le, length-append, drop-cons, drop-drop, take-take}
use Rattle.std.proofs.Math.Bool.{true, false}
use Rattle.std.proofs.lemmas.Bool.{false≢true}
use mathlib.Core.List.{List, [], ◌∷◌, ◌++◌, append-nil, append_assoc, head-eq_of_cons-eq}
use Prim.Native.Nat.{ℕ, zero, suc, ◌+◌, ◌≤◌, ◌<◌}
use Rattle.std.proofs.Math.ListN.{drop}
use Rattle.std.proofs.Math.Seq.{take-append_seam, drop-append_seam, take-append-add, drop-append-add, take-length, drop-length, drop-nil}
use Rattle.std.proofs.Math.Dec.{ltb}
use borrow.Author.Tests.{eqb-true, eqb-false, ltb-true, ltb-false}
use Rattle.theory.specs.Lists.{All}
use Rattle.theory.proofs.Lists.Laws.{all_nil, all_cons}
use Rattle.table_lines.specs.declared.Line.{Line}
use Rattle.table_lines.specs.Lines.{feeds, IsEnd, NoEnd, longer, line_of, bytes_at, after, skipped}
use Rattle.table_lines.proofs.Lines.Laws.{end_is, end-some, end_none, line-none, line_on, line-cases, size-inside, step-moves, no-end-byte, line-ended, last_line, after-past, skipped-inside}
use Rattle.table_lines.specs.Pieces.{Piece, joined, piece_of, pieces_from, pieces, without_ends, lines_of, AreLines}

-- computed: the three ends, a carriage return before a carriage return and a line feed, and a last line without an end
cases : lines_of (66 ∷ 13 ∷ 88 ∷ 10 ∷ 46 ∷ 13 ∷ 10 ∷ 63 ∷ 13 ∷ 13 ∷ 10 ∷ 120 ∷ [])
    ≡ (66 ∷ []) ∷ (88 ∷ []) ∷ (46 ∷ []) ∷ (63 ∷ []) ∷ [] ∷ (120 ∷ []) ∷ []
unfolding pieces_from line_of
cases = refl

-- ---- the first line and the others

-- as many as the bytes are enough
pieces-enough : (k n : ℕ) (bs : List ℕ) → length bs ≤ k → length bs ≤ n → pieces_from k bs ≡ pieces_from n bs
unfolding pieces_from
pieces-enough zero zero bs h i = refl
pieces-enough zero (suc n) [] h i = refl
pieces-enough zero (suc n) (b ∷ bs) h i = absurd (omega arith)
pieces-enough (suc k) zero [] h i = refl
pieces-enough (suc k) zero (b ∷ bs) h i = absurd (omega arith)
pieces-enough (suc k) (suc n) [] h i = refl
pieces-enough (suc k) (suc n) (b ∷ bs) h i =
    let s = (line_of (b ∷ bs)).step in
    let l : length (drop s (b ∷ bs)) ≤ length bs = omega (arith, length-drop s (b ∷ bs), step-moves b bs) in
    ap (λ ps. piece_of (b ∷ bs) ∷ ps) (pieces-enough k n (drop s (b ∷ bs)) (omega arith) (omega arith))

pieces_none : pieces [] ≡ []
unfolding pieces_from
pieces_none = refl

pub pieces-some : (bs : List ℕ) → 0 < length bs → pieces bs ≡ piece_of bs ∷ pieces (drop (line_of bs).step bs)
unfolding pieces_from
pieces-some [] h = absurd (omega arith)
pieces-some (b ∷ bs) h =
    let s = (line_of (b ∷ bs)).step in
    let l : length (drop s (b ∷ bs)) ≤ length bs = omega (arith, length-drop s (b ∷ bs), step-moves b bs) in
    ap (λ ps. piece_of (b ∷ bs) ∷ ps) (pieces-enough (length bs) (length (drop s (b ∷ bs))) (drop s (b ∷ bs)) l (omega arith))

-- ---- no byte is lost

piece-whole : (bs : List ℕ) → (piece_of bs).bytes ++ ((piece_of bs).end ++ drop (line_of bs).step bs) ≡ bs
piece-whole bs =
    let l = line_of bs in
    let part = take l.step bs in
    sym (append_assoc (take l.size bs) (drop l.size part) (drop l.step bs))
    ∙ ap (λ t. t ++ drop l.size part ++ drop l.step bs) (sym (take-take l.size l.step bs (size-inside bs)))
    ∙ ap (λ t. t ++ drop l.step bs) (take-append-drop l.size part)
    ∙ take-append-drop l.step bs

from-whole : (k : ℕ) (bs : List ℕ) → length bs ≤ k → joined (pieces_from k bs) ≡ bs
unfolding pieces_from
from-whole zero [] h = refl
from-whole zero (b ∷ bs) h = absurd (omega arith)
from-whole (suc k) [] h = refl
from-whole (suc k) (b ∷ bs) h =
    let s = (line_of (b ∷ bs)).step in
    let rest = from-whole k (drop s (b ∷ bs)) (omega (arith, length-drop s (b ∷ bs), step-moves b bs)) in
    ap (λ t. (piece_of (b ∷ bs)).bytes ++ ((piece_of (b ∷ bs)).end ++ t)) rest ∙ piece-whole (b ∷ bs)

pub pieces_whole : (file : List ℕ) → joined (pieces file) ≡ file
pieces_whole file = from-whole (length file) file (omega arith)

-- ---- each piece is a line and its end

-- the bytes behind a line's own are an end, or nothing at the end of the bytes
abbrev Ended : List ℕ → Line → Type 0
Ended bs l =
    let end = drop l.size (take l.step bs) in
    let behind = drop l.step bs in
    IsEnd end behind ⊎ ((end ≡ []) × (behind ≡ []) × (0 < length (take l.size bs)))

ended-on : (b : ℕ) (bs : List ℕ) (l : Line) → Ended bs l → Ended (b ∷ bs) (longer l)
ended-on b bs l (inl p) = inl p
ended-on b bs l (inr (p, q, h)) = inr (p, q, omega arith)

ended-first : (b : ℕ) (bs : List ℕ) → Ended (b ∷ bs) (line_of (b ∷ bs))
ended-first b [] =
    line-cases b [] (Ended (b ∷ [])) (λ h. inl (end_is (b ∷ []) h)) (λ e. rw line-none (inr (refl, refl, omega arith)))
ended-first b (c ∷ cs) =
    line-cases b (c ∷ cs) (Ended (b ∷ c ∷ cs)) (λ h. inl (end_is (b ∷ c ∷ cs) h))
    (λ e. ended-on b (c ∷ cs) (line_of (c ∷ cs)) (ended-first c cs))

pub pieces-lines : (file : List ℕ) → AreLines (pieces file)
unfolding pieces_from
pieces-lines file = go (length file) file (omega arith)
  where
    go : (k : ℕ) (bs : List ℕ) → length bs ≤ k → AreLines (pieces_from k bs)
    go zero bs h = tt
    go (suc k) [] h = tt
    go (suc k) (b ∷ bs) h =
        let s = (line_of (b ∷ bs)).step in
        let l : length (drop s (b ∷ bs)) ≤ k = omega (arith, length-drop s (b ∷ bs), step-moves b bs) in
        let e = from-whole k (drop s (b ∷ bs)) l in
        (no-end-byte (b ∷ bs), rw e (ended-first b bs), go k (drop s (b ∷ bs)) l)

-- so no line has a byte of an end
pub lines-no-end : (file : List ℕ) → All (All NoEnd) (lines_of file)
lines-no-end file = go (pieces file) (pieces-lines file)
  where
    go : (ps : List Piece) → AreLines ps → All (All NoEnd) (without_ends ps)
    go [] a = all_nil _
    go (p ∷ ps) a = all_cons a.0 (go ps a.2)

-- ---- and nothing else is

-- a line with its end, before other bytes, is the first piece
module _ (l e behind : List ℕ) (h : All NoEnd l) where
  piece-ended : IsEnd e behind → piece_of (l ++ (e ++ behind)) ≡ record { bytes = l; end = e }
  piece-ended p =
      let bs = l ++ (e ++ behind) in
      let f = line-ended l e behind h p in
      let front : take (length l + length e) bs ≡ l ++ e = take-append-add l (e ++ behind) (length e) ∙ ap (λ t. l ++ t) (take-append_seam e behind) in
      ap (λ (n : Line). record { bytes = take n.size bs; end = drop n.size (take n.step bs) }) f
      ∙ ap (λ (t : List ℕ). record { bytes = t; end = drop (length l) (take (length l + length e) bs) }) (take-append_seam l (e ++ behind))
      ∙ ap (λ (t : List ℕ). record { bytes = l; end = t }) (ap (drop (length l)) front ∙ drop-append_seam l e)

  rest_ended : IsEnd e behind → drop (line_of (l ++ (e ++ behind))).step (l ++ (e ++ behind)) ≡ behind
  rest_ended p =
      ap (λ (n : Line). drop n.step (l ++ (e ++ behind))) (line-ended l e behind h p)
      ∙ drop-append-add l (e ++ behind) (length e)
      ∙ drop-append_seam e behind

  pub pieces-ended : IsEnd e behind → pieces (l ++ (e ++ behind)) ≡ record { bytes = l; end = e } ∷ pieces behind
  pieces-ended p =
      let some : 0 < length (l ++ (e ++ behind)) =
      omega (arith, length-append l (e ++ behind), length-append e behind, end-some e behind p) in
      pieces-some (l ++ (e ++ behind)) some ∙ ap₂ ◌∷◌ (piece-ended p) (ap pieces (rest_ended p))

-- a last line without an end
pub pieces-unended : (l : List ℕ) → All NoEnd l → 0 < length l → pieces l ≡ record { bytes = l; end = [] } ∷ []
pieces-unended l h some =
    let f = last_line l h in
    let rest : drop (line_of l).step l ≡ [] = ap (λ (n : Line). drop n.step l) f ∙ drop-length l in
    let whole = take-length l in
    pieces-some l some
    ∙ ap₂ ◌∷◌
    (ap (λ (n : Line). record { bytes = take n.size l; end = drop n.size (take n.step l) }) f
    ∙ ap (λ (t : List ℕ). record { bytes = t; end = drop (length l) t }) whole
    ∙ ap (λ (t : List ℕ). record { bytes = l; end = t }) (drop-length l))
    (ap pieces rest ∙ pieces_none)

pub lines-only : (ps : List Piece) → AreLines ps → pieces (joined ps) ≡ ps
lines-only [] a = pieces_none
lines-only (p ∷ ps) (h, inl e, a) =
    pieces-ended p.bytes p.end (joined ps) h e ∙ ap (λ qs. p ∷ qs) (lines-only ps a)
lines-only (p ∷ ps) (h, inr (e, f, some), a) =
    let none : ps ≡ [] = sym (lines-only ps a) ∙ ap pieces f ∙ pieces_none in
    let alone : p.bytes ++ (p.end ++ joined ps) ≡ p.bytes = rw (e, f) (append-nil p.bytes) in
    ap pieces alone ∙ pieces-unended p.bytes h some
    ∙ ap₂ ◌∷◌ (ap (λ (t : List ℕ). record { bytes = p.bytes; end = t }) (sym e)) (sym none)

-- ---- the lines of a file, one by one

pub lines_none : lines_of [] ≡ []
lines_none = ap without_ends pieces_none

module _ (file : List ℕ) where
  -- the line at an offset, and those behind it
  pub lines_at : (at : ℕ) → at < length file → lines_of (drop at file) ≡ bytes_at file at ∷ lines_of (drop (after file at) file)
  lines_at at h =
      ap without_ends (pieces-some (drop at file) (omega (arith, length-drop at file)))
      ∙ ap (λ t. bytes_at file at ∷ lines_of t) (drop-drop (line_of (drop at file)).step at file)

  pub lines_end : (at : ℕ) → length file ≤ at → lines_of (drop at file) ≡ []
  lines_end at h = ap lines_of (drop_of_length-le file {i = at} h) ∙ lines_none

  left-from : (i at : ℕ) → lines_of (drop (skipped i file at) file) ≡ drop i (lines_of (drop at file))
  unfolding skipped
  left-from zero at = refl
  left-from (suc i) at = left-from i (after file at) ∙ go (ltb at (length file)) refl
    where
      go : (t : Bool) → ltb at (length file) ≡ t → drop i (lines_of (drop (after file at) file)) ≡ drop (suc i) (lines_of (drop at file))
      go true e = ap (drop (suc i)) (sym (lines_at at (ltb-true _ _ e)))
      go false e =
          let h = ltb-false _ _ e in
          let n = lines_end at h in
          ap (λ (m : ℕ). drop i (lines_of (drop m file))) (after-past file at h) ∙ ap (drop i) n ∙ drop-nil i ∙ sym (ap (drop (suc i)) n)

  module _ (i : ℕ) where
    pub lines_left : lines_of (drop (skipped i file 0) file) ≡ drop i (lines_of file)
    lines_left = left-from i 0

    -- the line that begins after i others
    pub start-there : i < length (lines_of file) → skipped i file 0 < length file
    start-there h = go (ltb (skipped i file 0) (length file)) refl
      where
        go : (t : Bool) → ltb (skipped i file 0) (length file) ≡ t → skipped i file 0 < length file
        go true e = ltb-true _ _ e
        go false e =
            let n = sym lines_left ∙ lines_end (skipped i file 0) (ltb-false _ _ e) in
            absurd (omega (arith, ap length n, length-drop i (lines_of file)))

    pub start-end : length (lines_of file) ≤ i → skipped i file 0 ≡ length file
    start-end h = go (ltb (skipped i file 0) (length file)) refl
      where
        go : (t : Bool) → ltb (skipped i file 0) (length file) ≡ t → skipped i file 0 ≡ length file
        go true e =
            let n = sym lines_left ∙ lines_at (skipped i file 0) (ltb-true _ _ e) in
            absurd (omega (arith, ap length n, length-drop i (lines_of file)))
        go false e =
            let l = ltb-false (skipped i file 0) (length file) e in
            omega (arith, skipped-inside i file 0 (omega arith))

    pub start-bytes : i < length (lines_of file) → bytes_at file (skipped i file 0) ≡ get_or (lines_of file) i []
    start-bytes h =
        head-eq_of_cons-eq (sym (lines_at (skipped i file 0) (start-there h)) ∙ lines_left ∙ drop-cons (lines_of file) i [] h)

-- ---- the lines, by the bytes that they begin with

-- a line with its end, and the lines behind it
pub lines-ended : (l e behind : List ℕ) → All NoEnd l → IsEnd e behind → lines_of (l ++ (e ++ behind)) ≡ l ∷ lines_of behind
lines-ended l e behind h p = ap without_ends (pieces-ended l e behind h p)

pub lines-unended : (l : List ℕ) → All NoEnd l → 0 < length l → lines_of l ≡ l ∷ []
lines-unended l h some = ap without_ends (pieces-unended l h some)

-- a byte more before the first line
abbrev prefixed : ℕ → List (List ℕ) → List (List ℕ)
prefixed b [] = (b ∷ []) ∷ []
prefixed b (l ∷ ls) = (b ∷ l) ∷ ls

lines-byte : (b : ℕ) (bs : List ℕ) → NoEnd b → lines_of (b ∷ bs) ≡ prefixed b (lines_of bs)
unfolding pieces_from
lines-byte b [] n = lines-unended (b ∷ []) (all_cons n (all_nil _)) (omega arith)
lines-byte b (c ∷ cs) n =
    let f = line_on b (c ∷ cs) (end_none b (c ∷ cs) n) in
    let first = pieces-some (b ∷ c ∷ cs) (omega arith) in
    ap without_ends first
    ∙ ap (λ (l : Line). take l.size (b ∷ c ∷ cs) ∷ lines_of (drop l.step (b ∷ c ∷ cs))) f
    ∙ sym (ap (λ ps. prefixed b (without_ends ps)) (pieces-some (c ∷ cs) (omega arith)))

lines-both : (bs : List ℕ) → feeds bs ≡ true → lines_of (13 ∷ bs) ≡ [] ∷ lines_of (drop 1 bs)
lines-both [] f = absurd (false≢true f)
lines-both (b ∷ bs) f = rw (eqb-true b 10 f) (lines-ended [] (13 ∷ 10 ∷ []) bs (all_nil _) (inr (inl refl)))

-- a byte more before bytes that have the same lines
lines_same : (x : ℕ) (cs ds : List ℕ) → feeds cs ≡ feeds ds → lines_of cs ≡ lines_of ds
    → (feeds cs ≡ true → lines_of (drop 1 cs) ≡ lines_of (drop 1 ds)) → lines_of (x ∷ cs) ≡ lines_of (x ∷ ds)
lines_same x cs ds f e d = go (eqb x 10) (eqb x 13) (feeds cs) refl refl refl
  where
    go : (t u v : Bool) → eqb x 10 ≡ t → eqb x 13 ≡ u → feeds cs ≡ v → lines_of (x ∷ cs) ≡ lines_of (x ∷ ds)
    go true u v q r w =
        let h = all_nil NoEnd in
        rw (eqb-true x 10 q)
        (lines-ended [] (10 ∷ []) cs h (inl refl) ∙ ap (λ ls. [] ∷ ls) e ∙ sym (lines-ended [] (10 ∷ []) ds h (inl refl)))
    go false true true q r w =
        rw (eqb-true x 13 r) (lines-both cs w ∙ ap (λ ls. [] ∷ ls) (d w) ∙ sym (lines-both ds (sym f ∙ w)))
    go false true false q r w =
        let h = all_nil NoEnd in
        rw (eqb-true x 13 r)
        (lines-ended [] (13 ∷ []) cs h (inr (inr (refl, w)))
        ∙ ap (λ ls. [] ∷ ls) e
        ∙ sym (lines-ended [] (13 ∷ []) ds h (inr (inr (refl, sym f ∙ w)))))
    go false false v q r w =
        let n : NoEnd x = (eqb-false _ _ q, eqb-false _ _ r) in
        lines-byte x cs n ∙ ap (prefixed x) e ∙ sym (lines-byte x ds n)

-- ---- the last line

module _ (b : ℕ) (n : NoEnd b) (e : List ℕ) (p : IsEnd e []) where
  -- a file whose last byte is none of an end has the same lines with an end behind it
  pub last-line-end : (bs : List ℕ) → lines_of (bs ++ (b ∷ e)) ≡ lines_of (bs ++ (b ∷ []))
  last-line-end [] =
      let h : All NoEnd (b ∷ []) = all_cons n (all_nil _) in
      ap (λ t. lines_of (b ∷ t)) (sym (append-nil e))
      ∙ lines-ended (b ∷ []) e [] h p
      ∙ ap (λ ls. (b ∷ []) ∷ ls) lines_none
      ∙ sym (lines-unended (b ∷ []) h (omega arith))
  last-line-end (x ∷ []) = lines_same x (b ∷ e) (b ∷ []) refl (last-line-end []) λ f. absurd (n.0 (eqb-true b 10 f))
  last-line-end (x ∷ y ∷ bs) = lines_same x (y ∷ bs ++ (b ∷ e)) (y ∷ bs ++ (b ∷ [])) refl (last-line-end (y ∷ bs)) λ f. last-line-end bs
