-- The sentences of the first number, of the last, and of numbers that no refusal has, by computing.
use Rattle.std.specs.Prelude.{◌≡◌, refl, []}
use Rattle.refusal_words.specs.Words.{bytes, joined, line_number, sentence}

pub sentence-1 : sentence 1 ≡ bytes "The session has no property, or more than 64: open it with 1 to 64."
unfolding bytes joined line_number
sentence-1 = refl

pub sentence-33 : sentence 33 ≡ bytes "A yes would become a no, or a no a yes: take the mark out of those offered; a mark once known stays."
unfolding bytes joined line_number
sentence-33 = refl

pub sentence-13 : sentence 13 ≡ []
unfolding bytes joined line_number
sentence-13 = refl

pub sentence-34 : sentence 34 ≡ []
unfolding bytes joined line_number
sentence-34 = refl
