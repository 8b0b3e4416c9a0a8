-- Numbers and sets as text, computed: 0, 305, and the sets {0} and {} among three attributes.
use Rattle.std.specs.Prelude.{◌≡◌, refl, [], ◌∷◌}
use Rattle.text.specs.Text.{digits, number_text, set_text}

cases : (number_text 0 ≡ 48 ∷ [])
    × (number_text 305 ≡ 51 ∷ 48 ∷ 53 ∷ [])
    × (set_text 3 1 ≡ 88 ∷ 46 ∷ 46 ∷ [])
    × (set_text 3 0 ≡ 46 ∷ 46 ∷ 46 ∷ [])
unfolding digits set_text
cases = (refl, refl, refl, refl)
