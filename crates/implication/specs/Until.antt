-- Passes and closures that are given up as soon as the set holds a member of `stop`. They come from the search for the next
-- closed set: a candidate that gains an attribute below j is not it, so the rest of its closure is not needed.
-- Each is the whole thing where the result holds no member of `stop`; `Laws` proves how they are put together.
use Rattle.std.specs.Prelude.{◌≡◌, List, ℕ}
use Rattle.std.specs.Int.Bits.{bit_and}
use Rattle.theory.specs.Implications.{Implication, Closed}
use Rattle.attribute_set.specs.Sets.{Sub}
use Rattle.attribute_set.proofs.Words.{words}
use Rattle.implication.specs.Closure.{pass}

-- r is what a pass over rs makes of set, or what it had made of it when it met stop
pub record PassUntil (rs : List (Implication ℕ)) (set stop r : ℕ) : Type 0 where
  pub above : Sub set r
  pub least : (t : ℕ) → Closed words rs t → Sub set t → Sub r t
  pub whole : bit_and r stop ≡ 0 → r ≡ pass rs set

-- r is the closure, or a part of it that meets stop
pub record CloseUntil (closure stop r : ℕ) : Type 0 where
  pub least : Sub r closure
  pub whole : bit_and r stop ≡ 0 → r ≡ closure
