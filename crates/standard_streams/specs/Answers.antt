-- What a program answers to the bytes of its input that it has read to the start of a buffer.
use Rattle.std.specs.Prelude.{◌≡◌, List, ℕ, length, take}
use Rattle.handed_output.specs.declared.Told.{Told}
use Rattle.handed_output.specs.Handing.{WritesIn}

-- the buffer has so many bytes and holds the first ones of the input: what is written is the program's output for that input
pub record AnswersIn (output : List ℕ → List ℕ) (most : ℕ) (file : List ℕ) (size : ℕ) (before out : List ℕ) (r : Told) : Type 0 where
  pub buffer : length file ≡ most
  pub answer : (input : List ℕ) → take size file ≡ take most input → WritesIn before out r (output input)
