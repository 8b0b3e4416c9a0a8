-- The rows have no mark but those of the file, bit for bit: bit j of a word says whether byte j passes the test (`word-bit`), and no
-- bit past the bytes is set (`word-past`). There are as many rows as are asked for (`rows-count`).
use Rattle.std.specs.Prelude.{◌≡◌, refl, Bool, true, false, length}
use Rattle.std.proofs.Math.Path.{sym, ap}
use Rattle.std.proofs.Common.{◌∙◌, length-drop, drop_of_length-le, lt_of_lt_of_le, pow_mono}
use Rattle.std.proofs.lemmas.List.{length_push, get_or_push, get_or-take, take-take}
use Rattle.std.proofs.Math.Seq.{take-append_seam}
use mathlib.Core.List.{List, [], ◌∷◌, ◌++◌}
use mir.Val.{bool_byte}
use Prim.Native.Nat.{ℕ, zero, suc, ◌-◌, ◌≤◌, ◌<◌, ◌+◌, ◌*◌, ◌/◌, ◌^◌}
use native.Mathlib.Omega.{arith}
use Rattle.std.proofs.Math.ListN.{take, drop, get_or}
use Rattle.table_lines.specs.Lines.{line_of, after}
use Rattle.context.specs.Objects.{object}
use Rattle.session.specs.Limits.{most_attributes}
use Rattle.std.proofs.Math.Nat.{pow-suc}
use Rattle.attribute_set.specs.Sets.{digit}
use Rattle.attribute_set.proofs.Sets.Laws.{digit-half, digit-high}
use Rattle.line_bytes.proofs.Everywhere.Laws.{byte_at}
use Rattle.table_rows.specs.Rows.{bit_of, word_of, row_of, rows_from}

-- computed: the row of `X?.x`, byte 0 for attribute 0, what is unknown in neither word; and a last row without line feed
cases : (row_of (88 ∷ 63 ∷ 46 ∷ 120 ∷ []) ≡ object 9 4) × (rows_from 2 (88 ∷ 10 ∷ 46 ∷ []) 0 ≡ object 1 0 ∷ object 0 1 ∷ [])
unfolding word_of rows_from line_of
cases = (refl, refl)

pub bit-lt : (t : Bool) → bit_of t < 2
bit-lt true = omega arith
bit-lt false = omega arith

-- the bit is what the test is as a number
pub bit-byte : (t : Bool) → bool_byte t ≡ bit_of t
bit-byte true = refl
bit-byte false = refl

-- the last of the first bytes, and those before it
module _ (bs first before : List ℕ) (b : ℕ) (in_front : first ≡ take (length first) bs) (e : first ≡ before ++ b ∷ []) where
  pub front-length : length first ≡ length before + 1
  front-length = ap length e ∙ length_push before b

  pub front-byte : get_or bs (length first - 1) 0 ≡ b
  front-byte =
      let j : length first - 1 < length first = omega (arith, front-length) in
      let k : length before ≡ length first - 1 = omega (arith, front-length) in
      sym (get_or-take (length first) bs (length first - 1) 0 j)
      ∙ ap (λ (cs : List ℕ). get_or cs (length first - 1) 0) (sym in_front ∙ e)
      ∙ get_or_push before b 0 (length first - 1) k

  pub front-before : before ≡ take (length before) bs
  front-before =
      sym (take-append_seam before (b ∷ []))
      ∙ ap (take (length before)) (sym e ∙ in_front)
      ∙ take-take (length before) (length first) bs (omega (arith, front-length))

module _ (f : ℕ → Bool) where
  pub word-bit : (bs : List ℕ) (j : ℕ) → j < length bs → digit (word_of f bs) j ≡ bit_of (f (get_or bs j 0))
  unfolding word_of
  word-bit [] j h = absurd (omega arith)
  word-bit (b ∷ bs) zero h = omega (arith, bit-lt (f b))
  word-bit (b ∷ bs) (suc j) h =
      let half : (word_of f bs * 2 + bit_of (f b)) / 2 ≡ word_of f bs = omega (arith, bit-lt (f b)) in
      sym (digit-half (word_of f bs * 2 + bit_of (f b)) j) ∙ ap (λ (w : ℕ). digit w j) half ∙ word-bit bs j (omega arith)

  pub word_lt : (bs : List ℕ) → word_of f bs < 2 ^ length bs
  unfolding word_of
  word_lt [] = omega arith
  word_lt (b ∷ bs) = rw pow-suc (omega (arith, word_lt bs, bit-lt (f b)))

  pub word-past : (bs : List ℕ) (j : ℕ) → length bs ≤ j → digit (word_of f bs) j ≡ 0
  word-past bs j h = digit-high (word_of f bs) j (length bs) (word_lt bs) h

  -- ---- along an index j, from the last byte to the first

  module _ (bs : List ℕ) (j : ℕ) where
    -- no byte is passed
    pub word_none : length bs ≤ j → word_of f (drop j bs) ≡ 0
    unfolding word_of
    word_none h = ap (word_of f) (drop_of_length-le bs {i = j} h)

    module _ (some : 0 < j) (h : j ≤ length bs) where
      -- the byte before those passed
      pub word_on : word_of f (drop (j - 1) bs) ≡ word_of f (drop j bs) * 2 + bit_of (f (get_or bs (j - 1) 0))
      unfolding word_of
      word_on =
          let e : (j - 1) + 1 ≡ j = omega arith in
          ap (word_of f) (byte_at bs (j - 1) (omega arith) ∙ ap (λ (k : ℕ). get_or bs (j - 1) 0 ∷ drop k bs) e)

      -- fewer than 64 bytes are passed
      pub word_small : length bs ≤ most_attributes → word_of f (drop j bs) * 2 + bit_of (f (get_or bs (j - 1) 0)) < 2 ^ 64
      word_small few =
          let l : length (drop j bs) ≤ 63 = rw length-drop (omega arith) in
          let t : word_of f (drop j bs) < 2 ^ 63 = lt_of_lt_of_le (word_lt _) (pow_mono l) in
          omega (arith, bit-lt (f (get_or bs (j - 1) 0)))

  -- the first bytes without their last one: the word of the others has a bit more
  module _ (bs first before : List ℕ) (b : ℕ) (in_front : first ≡ take (length first) bs) (e : first ≡ before ++ b ∷ []) (h : length first ≤ length bs) where
    some : 0 < length first
    some = omega (arith, front-length bs first before b in_front e)

    pub word-front : word_of f (drop (length before) bs) ≡ word_of f (drop (length first) bs) * 2 + bit_of (f b)
    word-front =
        let k : length before ≡ length first - 1 = omega (arith, front-length bs first before b in_front e) in
        ap (λ (k : ℕ). word_of f (drop k bs)) k
        ∙ word_on bs (length first) some h
        ∙ ap (λ (x : ℕ). word_of f (drop (length first) bs) * 2 + bit_of (f x)) (front-byte bs first before b in_front e)

    pub word-front_small : length bs ≤ most_attributes → word_of f (drop (length first) bs) * 2 + bit_of (f b) < 2 ^ 64
    word-front_small few =
        omega (arith, word_small bs (length first) some h few, ap (λ (x : ℕ). bit_of (f x)) (front-byte bs first before b in_front e))

pub rows-count : (k : ℕ) (file : List ℕ) (at : ℕ) → length (rows_from k file at) ≡ k
unfolding rows_from
rows-count zero file at = refl
rows-count (suc k) file at = ap suc (rows-count k file (after file at))
