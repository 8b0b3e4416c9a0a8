-- How many bytes of a buffer were filled.
use Rattle.std.specs.Prelude.{◌≡◌, ℕ, ◌≤◌, List, length, take}

-- so many bytes lie at the start of a buffer: the part up to there is within it, and has so many
abbrev pub Counts : ℕ → List ℕ → Type 0
Counts n bytes = (n ≤ length bytes) × (n ≡ length (take n bytes))
