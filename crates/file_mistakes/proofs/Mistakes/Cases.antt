-- The five mistakes and a phrase, by computing.
use Rattle.std.specs.Prelude.{◌≡◌, refl, [], ◌∷◌}
use Rattle.refusal_words.specs.Words.{bytes, joined, line_number}
use Rattle.file_mistakes.specs.Mistakes.{mistake_of, looks_like, mistake_phrase}

-- an empty file; EF BB BF and `B`; FF FE and `B`; FE FF; `b` and a line feed; `b`, carriage return, a title; `b`; `<x`
mistakes : (looks_like [] ≡ 1)
    × (looks_like (239 ∷ 187 ∷ 191 ∷ 66 ∷ []) ≡ 2)
    × (looks_like (255 ∷ 254 ∷ 66 ∷ 0 ∷ []) ≡ 3)
    × (looks_like (254 ∷ 255 ∷ []) ≡ 3)
    × (looks_like (98 ∷ 10 ∷ []) ≡ 4)
    × (looks_like (98 ∷ 13 ∷ 116 ∷ []) ≡ 4)
    × (looks_like (98 ∷ []) ≡ 4)
    × (looks_like (60 ∷ 120 ∷ []) ≡ 5)
unfolding mistake_of looks_like
mistakes = (refl, refl, refl, refl, refl, refl, refl, refl)

pub mistake-5 : mistake_phrase 5 ≡ bytes "the file looks like another format"
unfolding bytes joined line_number
mistake-5 = refl
