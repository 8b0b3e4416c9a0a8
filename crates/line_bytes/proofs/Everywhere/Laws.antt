-- Laws of a test of all the bytes of a line: it is std's test of all the elements of a list (`everywhere-all`); and along an index.
use Rattle.std.specs.Prelude.{◌≡◌, refl, Bool, true, false, ◌&&◌, List, [], ◌∷◌, ℕ, ◌+◌, ◌≤◌, ◌<◌, length, get_or, drop}
use Rattle.std.specs.List.{list_all}
use Rattle.std.proofs.Math.Path.{sym, ap}
use Rattle.std.proofs.Common.{◌∙◌, add-one, drop_of_length-le, drop-cons}
use Rattle.line_bytes.specs.Everywhere.{everywhere}

-- the first byte and the others
pub everywhere-cons : (f : ℕ → Bool) (b : ℕ) (bs : List ℕ) → everywhere f (b ∷ bs) ≡ (f b && everywhere f bs)
unfolding everywhere
everywhere-cons f b bs = go (f b)
  where
    go : (t : Bool) → elim t [ true ↦ everywhere f bs | false ↦ false ] ≡ (t && everywhere f bs)
    go true = refl
    go false = refl

pub everywhere-all : (f : ℕ → Bool) (bs : List ℕ) → list_all f bs ≡ everywhere f bs
unfolding everywhere
everywhere-all f [] = refl
everywhere-all f (b ∷ bs) = ap (λ t. f b && t) (everywhere-all f bs) ∙ sym (everywhere-cons f b bs)

module _ (bs : List ℕ) (i : ℕ) where
  -- no byte is left
  pub everywhere-end : (f : ℕ → Bool) → length bs ≤ i → everywhere f (drop i bs) ≡ true
  unfolding everywhere
  everywhere-end f h = ap (everywhere f) (drop_of_length-le bs {i = i} h)

  module _ (h : i < length bs) where
    -- the byte at i, then those behind it
    pub byte_at : drop i bs ≡ get_or bs i 0 ∷ drop (i + 1) bs
    byte_at = rw add-one (drop-cons bs i 0 h)

    pub everywhere-at : (f : ℕ → Bool) → everywhere f (drop i bs) ≡ (f (get_or bs i 0) && everywhere f (drop (i + 1) bs))
    everywhere-at f = ap (everywhere f) byte_at ∙ everywhere-cons f _ _
