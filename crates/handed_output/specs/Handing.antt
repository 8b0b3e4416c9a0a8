-- What is handed over to be written of an output that stands in a buffer (01, "The program": each line as soon as it is known).
use Rattle.std.specs.Prelude.{◌≡◌, List, true, false, ℕ, ◌+◌, ◌-◌, ◌≤◌, length, take}
use Rattle.text.specs.Page.{page, text, Buffer, Puts}
use Rattle.handed_output.specs.declared.Handed.{Handed}
use Rattle.handed_output.specs.declared.Told.{Told}

-- nothing was handed over yet
abbrev pub untold : Handed
untold = record { bytes = 0; whole = true }

-- a number of bytes fits into a word
abbrev pub most_counted : ℕ
most_counted = 18446744073709551615

-- the part of a buffer of so many bytes between two offsets is handed over, and counted as far as a word counts; once a write has failed,
-- none is
pub record HandsOver (size from to : ℕ) (before after : Handed) : Type 0 where
  pub on : before.whole ≡ true → from ≤ to → to ≤ size → before.bytes + (to - from) ≤ most_counted → after.bytes ≡ before.bytes + (to - from)
  pub ended : before.whole ≡ false → after ≡ before

-- so many were handed over in all; where a write has failed, at most so many
pub record Hands (before : Handed) (bytes : ℕ) (after : Handed) : Type 0 where
  pub all : after.whole ≡ true → after.bytes ≡ before.bytes + bytes
  pub within : after.bytes ≤ before.bytes + bytes

-- the call writes this text from the start of the buffer, and hands all of it over, where as many bytes as the buffer has can be counted
abbrev pub Tells : Buffer → Handed → Told → List ℕ → Type 0
Tells out before r bytes =
    Puts out 0 r.end bytes × (before.bytes + length out.entry.now ≤ most_counted → Hands before r.end r.handed)

-- the text from the start of the buffer is this one, whole, with the bytes past it as they were, and from nothing on all of it is
-- handed over
pub record WritesIn (before out : List ℕ) (r : Told) (bytes : List ℕ) : Type 0 where
  pub put : page out r.end ≡ text (page before 0) bytes
  pub written : take r.end out ≡ bytes
  pub handed : Hands untold (length bytes) r.handed

abbrev pub Writes : Buffer → Told → List ℕ → Type 0
Writes out r bytes = WritesIn out.entry.now out.exit.now r bytes
