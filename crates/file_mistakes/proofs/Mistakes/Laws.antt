-- A mistake by its tests, in their order; the first bytes of a file by their offsets.
use Rattle.std.specs.Prelude.{◌≡◌, refl, true, false, List, [], ◌∷◌, ℕ, length, get_or}
use Rattle.std.proofs.Common.{arith}
use Rattle.file_mistakes.specs.Mistakes.{is_order_mark, is_wide, is_small, mistake_of, looks_like}

module _ (a b c : ℕ) where
  pub mistake-2 : is_order_mark a b c ≡ true → mistake_of a b c ≡ 2
  unfolding mistake_of
  mistake-2 e = rw (e, mistake_of)

  pub mistake-3 : is_order_mark a b c ≡ false → is_wide a b ≡ true → mistake_of a b c ≡ 3
  unfolding mistake_of
  mistake-3 e f = rw (e, f, mistake_of)

  module _ (e : is_order_mark a b c ≡ false) (f : is_wide a b ≡ false) where
    pub mistake-4 : is_small a b ≡ true → mistake_of a b c ≡ 4
    unfolding mistake_of
    mistake-4 g = rw (e, f, g, mistake_of)

    pub mistake-5 : is_small a b ≡ false → mistake_of a b c ≡ 5
    unfolding mistake_of
    mistake-5 g = rw (e, f, g, mistake_of)

-- an empty file, and another
pub looks-none : (file : List ℕ) → length file ≡ 0 → looks_like file ≡ 1
unfolding looks_like
looks-none [] h = refl
looks-none (b ∷ bs) h = absurd (omega arith)

pub looks-some : (file : List ℕ) → (length file ≡ 0 → ⊥) → looks_like file ≡ mistake_of (get_or file 0 0) (get_or file 1 0) (get_or file 2 0)
unfolding looks_like
looks-some [] h = absurd (h refl)
looks-some (b ∷ bs) h = refl
