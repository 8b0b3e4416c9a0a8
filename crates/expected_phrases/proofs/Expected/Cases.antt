-- Phrases, by computing.
use Rattle.std.specs.Prelude.{◌≡◌, refl, []}
use Rattle.refusal_words.specs.Words.{bytes, joined, line_number}
use Rattle.expected_phrases.specs.Expected.{phrase}

pub phrase-21 : phrase 21 ≡ bytes "no more than 65,535 bytes expected"
unfolding bytes joined line_number
phrase-21 = refl

pub phrase-29 : phrase 29 ≡ bytes "marks out of X x . expected"
unfolding bytes joined line_number
phrase-29 = refl

pub phrase-12 : phrase 12 ≡ []
unfolding bytes joined line_number
phrase-12 = refl
