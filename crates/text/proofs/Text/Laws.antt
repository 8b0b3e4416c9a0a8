-- A set has a byte for each attribute (`set-length`).
use Rattle.std.specs.Prelude.{◌≡◌, refl, ℕ, zero, suc, ◌/◌, length}
use Rattle.std.proofs.Common.{ap}
use Rattle.text.specs.Text.{set_text}

pub set-length : (n w : ℕ) → length (set_text n w) ≡ n
unfolding set_text
set-length zero w = refl
set-length (suc n) w = ap suc (set-length n (w / 2))
