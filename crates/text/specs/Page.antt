-- Text written into a lent buffer from an offset on: what a writing function leaves. A byte past the buffer's end is dropped, so
-- that writing is total; `Laws` proves that a text that fits stands there whole, behind what was there before.
use Rattle.std.specs.Prelude.{◌≡◌, true, false, List, [], ◌∷◌, ℕ, ◌+◌, length, set, ltb}
use denote.Triple.Both.{Both}
use Rattle.std.specs.Borrow.{Bor, MutBor}

-- a buffer, and the offset where the next byte goes
pub record Page : Type 0 where
  pub bytes : List ℕ
  pub at : ℕ

abbrev pub page : List ℕ → ℕ → Page
page bytes at = record { bytes = bytes; at = at }

unfoldable pub put : Page → ℕ → Page
put p b = elim (ltb p.at (length p.bytes)) [ true ↦ page (set p.bytes p.at b) (p.at + 1) | false ↦ p ]

-- a text, byte by byte
unfoldable pub text : Page → List ℕ → Page
text p [] = p
text p (b ∷ bs) = text (put p b) bs

-- a lent buffer, as a call finds it and as it leaves it
abbrev pub Buffer : Type 0
Buffer = Both (MutBor (List ℕ)) (MutBor (List ℕ))

-- lent bytes that a call reads
abbrev pub Bytes : Type 0
Bytes = Both (Bor (List ℕ)) (Bor (List ℕ))

-- the call writes these bytes into the buffer, from the offset `at` to the offset `end`
abbrev pub Puts : Buffer → ℕ → ℕ → List ℕ → Type 0
Puts out at end bytes = page out.exit.now end ≡ text (page out.entry.now at) bytes
