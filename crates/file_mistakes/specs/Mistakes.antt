-- Which mistake a table file looks like whose first line is not `B` alone (refusal 22), by its first bytes: 1 to 5; and a
-- phrase for each (the words are not 01's).
use Rattle.std.specs.Prelude.{Bool, true, false, ◌&&◌, ◌||◌, List, [], ◌∷◌, ℕ, get_or, eqb}
use Rattle.refusal_words.specs.Words.{joined, line_number}
use Rattle.file_mistakes.specs.declared.Mistake.{Mistake}
use Rattle.file_mistakes.specs.declared.Mistake.TheVariants.{Empty, OrderMark, Wide, Small, Other}

-- a mistake's number
abbrev pub number_of : Mistake → ℕ
number_of Empty = 1
number_of OrderMark = 2
number_of Wide = 3
number_of Small = 4
number_of Other = 5

-- two bytes are these two
abbrev pub are : ℕ → ℕ → ℕ → ℕ → Bool
are a b x y = eqb a x && eqb b y

-- a byte-order mark of UTF-8: EF BB BF
abbrev pub is_order_mark : ℕ → ℕ → ℕ → Bool
is_order_mark a b c = are a b 239 187 && eqb c 191

-- a byte-order mark of UTF-16: FF FE or FE FF
abbrev pub is_wide : ℕ → ℕ → Bool
is_wide a b = are a b 255 254 || are a b 254 255

-- `b`, and the end of its line
abbrev pub is_small : ℕ → ℕ → Bool
is_small a b = are a b 98 10 || (are a b 98 13 || are a b 98 0)

-- the mistake of a file that begins with these bytes
unfoldable pub mistake_of : ℕ → ℕ → ℕ → ℕ
mistake_of a b c =
    elim (is_order_mark a b c) [
      | true ↦ 2
      | false ↦ elim (is_wide a b) [ true ↦ 3 | false ↦ elim (is_small a b) [ true ↦ 4 | false ↦ 5 ] ]
    ]

-- 1 for an empty file; a byte past the end of the file counts as 0
unfoldable pub looks_like : List ℕ → ℕ
looks_like [] = 1
looks_like (b ∷ bs) = mistake_of b (get_or bs 0 0) (get_or bs 1 0)

-- what a mistake is, a phrase for each
abbrev pub mistake_phrases : List ℕ
mistake_phrases =
    joined ""
    (
    "the file is empty" ∷
    "the file begins with a byte-order mark" ∷
    "the file looks like UTF-16" ∷
    "it is a small b" ∷
    "the file looks like another format" ∷
    []
    )

abbrev pub mistake_phrase : ℕ → List ℕ
mistake_phrase mistake = line_number mistake mistake_phrases
