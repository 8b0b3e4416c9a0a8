-- One pair more makes one word more.
use Rattle.std.specs.Prelude.{List, ℕ, ◌+◌, ◌*◌, ◌^◌, ◌<◌, get_or}
use Rattle.std.proofs.Common.{sym, subst, add-one}
use Rattle.word_pairs.specs.Walks.{Makes}

pub makes-next : (change : ℕ → ℕ → ℕ → ℕ → Type 0) (ws : List ℕ) (n x y z : ℕ) → z < 2 ^ 64 → Makes change ws n x z
    → change (get_or ws (n * 2) 0) (get_or ws (n * 2 + 1) 0) z y → Makes change ws (n + 1) x y
unfolding Makes
makes-next change ws n x y z h m c = subst (λ k. Makes change ws k x y) (sym (add-one n)) (z, h, m, c)
