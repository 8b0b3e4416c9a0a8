-- So many bytes at the start of a buffer are its bytes up to its end, where they are more than it has (`first-bytes`).
use Rattle.std.specs.Prelude.{◌≡◌, refl, Bool, true, false, List, ℕ, ◌≤◌, min, length, take, leb}
use Rattle.std.proofs.Common.{sym, ap, ◌∙◌, arith, take_all, leb-true, leb-false}

pub first-bytes : (size end : ℕ) (bytes : List ℕ) → end ≡ min size (length bytes) → take end bytes ≡ take size bytes
first-bytes size end bytes e = go (leb size (length bytes)) refl
  where
    go : (t : Bool) → leb size (length bytes) ≡ t → take end bytes ≡ take size bytes
    go true h = let same : end ≡ size = omega (arith, leb-true size (length bytes) h) in ap (λ k. take k bytes) same
    go false h =
        let long : length bytes ≤ end = omega (arith, leb-false size (length bytes) h) in
        let longer : length bytes ≤ size = omega (arith, leb-false size (length bytes) h) in
        take_all end bytes long ∙ sym (take_all size bytes longer)
