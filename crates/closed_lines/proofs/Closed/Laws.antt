-- Lines as text, computed (`cases`). Closed lines behind others are the text of both (`closed-append`), and have a byte more than the
-- lines for each line (`closed-length`). The lines of the text are the lines (`closed-lines`). How the first lines of lent bytes follow on
-- each other (`first-at`, `line-found`).
use Rattle.std.specs.Prelude.{◌≡◌, refl, List, [], ◌∷◌, ◌++◌, ℕ, zero, suc, ◌+◌, ◌-◌, ◌≤◌, ◌<◌, length, take, drop}
use Rattle.std.proofs.Common.{sym, ap, ◌∙◌, inl, append_assoc, arith, length-append}
use mathlib.Core.List.Memᴰ
use Rattle.theory.specs.Lists.{All}
use Rattle.table_lines.specs.Lines.{NoEnd, line_of, bytes_at, after}
use Rattle.table_lines.specs.declared.Line.{Line}
use Rattle.table_lines.proofs.Lines.Laws.{bytes-length, bytes_inside, size-inside, after-inside}
use Rattle.table_lines.specs.Pieces.{lines_of, pieces_from}
use Rattle.table_lines.proofs.Pieces.Laws.{lines_none, lines_at, lines_end, lines-ended}
use Rattle.closed_lines.specs.Closed.{closed, bytes_in, first_lines}

-- computed: an empty line between two others; the first two lines of three, whatever their ends, and all of them where more are asked for
cases : (closed ((66 ∷ []) ∷ [] ∷ (49 ∷ []) ∷ []) ≡ 66 ∷ 10 ∷ 10 ∷ 49 ∷ 10 ∷ [])
    × (first_lines 2 (97 ∷ 13 ∷ 98 ∷ 13 ∷ 10 ∷ 99 ∷ []) ≡ (97 ∷ []) ∷ (98 ∷ []) ∷ [])
    × (closed (first_lines 4 (97 ∷ 13 ∷ 98 ∷ 13 ∷ 10 ∷ 99 ∷ [])) ≡ 97 ∷ 10 ∷ 98 ∷ 10 ∷ 99 ∷ 10 ∷ [])
    × (bytes_in (first_lines 4 (97 ∷ 13 ∷ 98 ∷ 13 ∷ 10 ∷ 99 ∷ [])) ≡ 3)
unfolding closed bytes_in pieces_from line_of
cases = (refl, refl, refl, refl)

pub closed_none : closed [] ≡ []
unfolding closed
closed_none = refl

pub closed-cons : (l : List ℕ) (ls : List (List ℕ)) → closed (l ∷ ls) ≡ closed (l ∷ []) ++ closed ls
unfolding closed
closed-cons l ls = sym (append_assoc l (10 ∷ []) (closed ls))

pub closed-append : (ks ls : List (List ℕ)) → closed (ks ++ ls) ≡ closed ks ++ closed ls
unfolding closed
closed-append [] ls = refl
closed-append (k ∷ ks) ls = ap (λ t. k ++ (10 ∷ t)) (closed-append ks ls) ∙ sym (append_assoc k (10 ∷ closed ks) (closed ls))

pub closed-length : (ls : List (List ℕ)) → length (closed ls) ≡ bytes_in ls + length ls
unfolding closed bytes_in
closed-length [] = refl
closed-length (l ∷ ls) = omega (arith, length-append l (10 ∷ closed ls), closed-length ls)

-- lines without a byte of an end are the lines of their text
pub closed-lines : (ls : List (List ℕ)) → All (All NoEnd) ls → lines_of (closed ls) ≡ ls
unfolding closed
closed-lines [] h = lines_none
closed-lines (l ∷ ls) h =
    lines-ended l (10 ∷ []) (closed ls) (h l (Memᴰ.head refl)) (inl refl)
    ∙ ap (λ ks. l ∷ ks) (closed-lines ls λ k m. h k (Memᴰ.tail m))

-- ---- the first lines, one by one, of which i are passed

module _ (bytes : List ℕ) (count i from : ℕ) where
  -- the line at an offset, then those behind it
  pub first-at : i < count → from < length bytes
      → take (count - i) (lines_of (drop from bytes)) ≡ bytes_at bytes from ∷ take (count - (i + 1)) (lines_of (drop (after bytes from) bytes))
  first-at h k =
      let e : count - i ≡ suc (count - (i + 1)) = omega arith in
      ap (λ (m : ℕ). take m (lines_of (drop from bytes))) e ∙ ap (take (suc (count - (i + 1)))) (lines_at bytes from k)

  -- no line is asked for
  pub first-none : count ≤ i → take (count - i) (lines_of (drop from bytes)) ≡ []
  first-none h =
      let e : count - i ≡ 0 = omega arith in
      ap (λ (m : ℕ). take m (lines_of (drop from bytes))) e

  -- no line is left
  pub first-end : length bytes ≤ from → take (count - i) (lines_of (drop from bytes)) ≡ []
  first-end h = ap (take (count - i)) (lines_end bytes from h) ∙ nothing (count - i)
    where
      nothing : (m : ℕ) → ◌≡◌ {A = List (List ℕ)} (take m []) []
      nothing zero = refl
      nothing (suc m) = refl

-- ---- the line that is found at an offset

-- it is the line there, no longer than up to the next one, which begins inside the bytes
pub record LineFound (bytes : List ℕ) (from : ℕ) (l : Line) : Type 0 where
  pub size : l.size ≡ length (bytes_at bytes from)
  pub line : take l.size (drop from bytes) ≡ bytes_at bytes from
  pub ends : from + l.size ≤ length bytes
  pub short : l.size ≤ l.step
  pub next : from + l.step ≡ after bytes from
  pub inside : after bytes from ≤ length bytes

pub line-found : (bytes : List ℕ) (from : ℕ) (l : Line) → l ≡ line_of (drop from bytes) → from ≤ length bytes → LineFound bytes from l
line-found bytes from l e h =
    rw e (record {
      size = sym (bytes-length bytes from);
      line = refl;
      ends = bytes_inside bytes from h;
      short = size-inside (drop from bytes);
      next = refl;
      inside = after-inside bytes from h;
    })
