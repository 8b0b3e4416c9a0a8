-- What each refusal number means, and what a person does next: one sentence for each number of 01 and 02 (the words are not theirs).
use Rattle.std.specs.Prelude.{Bool, true, false, ◌&&◌, List, [], ◌∷◌, ◌++◌, ℕ, ◌-◌, eqb}
use Prim.Native.Char.{code}
use Prim.Native.String.{String}
use Prim.Native.String as string

-- a text as bytes, one for each character
unfoldable pub bytes : String → List ℕ
bytes string.[] = []
bytes (string.◌∷◌ c cs) = code c ∷ bytes cs

-- texts as lines, a line feed between them
unfoldable pub joined : String → List String → List ℕ
joined s [] = bytes s
joined s (t ∷ ts) = bytes s ++ (10 ∷ joined t ts)

-- at a byte, with so many lines before the one that is sought: it ends; what is written; how many lines are left before it
abbrev pub ends : ℕ → ℕ → Bool
ends k b = eqb k 0 && eqb b 10

abbrev pub shown : ℕ → ℕ → List ℕ
shown k b = elim (eqb k 0) [ true ↦ b ∷ [] | false ↦ [] ]

abbrev pub left : ℕ → ℕ → ℕ
left k b = elim (eqb b 10) [ true ↦ k - 1 | false ↦ k ]

-- the line of a number, the first being 0; nothing past the last
unfoldable pub line_number : ℕ → List ℕ → List ℕ
line_number k [] = []
line_number k (b ∷ bs) = elim (ends k b) [ true ↦ [] | false ↦ shown k b ++ line_number (left k b) bs ]

-- the sentences, one for each number from 0 on; empty for a number that no refusal has
abbrev pub sentences : List ℕ
sentences =
    joined ""
    (
    "The session has no property, or more than 64: open it with 1 to 64." ∷
    "A number of words is odd or above its limit: lend two words for each of at most 512 rows and 256 rules." ∷
    "No such place: lend words for all rows, rules and answers in use; ask for numbers below the counts, of the file opened." ∷
    "A row, a rule or the current set has a property that the session has not: clear the bits past the last property." ∷
    "A row marks a property both yes and no: take one of the two marks away." ∷
    "A row contradicts the rules in force: correct the row, or open a session without the rule." ∷
    "The current set is not closed under the rules in force: open the session again, and make its calls again." ∷
    "No question stands: make a step first." ∷
    "The row has a property that the session has not, or marks one both yes and no: correct the row." ∷
    "The row does not refute the question: mark the whole premise yes, and something of the conclusion no." ∷
    "This contradicts. A yes: the row named lacks some of it; say no with what it lacks, or correct it. An offered row: correct it." ∷
    "All places are in use: lend more words for rows or rules." ∷
    "" ∷
    "" ∷
    "" ∷
    "" ∷
    "" ∷
    "" ∷
    "" ∷
    "" ∷
    "The file is longer than 65,535 bytes: take a smaller table." ∷
    "The first line is not a B alone: save the table as plain text in Burmeister's layout." ∷
    "A count is missing, or not 1 to 4 digits: the third line counts the rows, the fourth the properties." ∷
    "A count is out of range: a table has at most 512 rows, and 1 to 64 properties." ∷
    "The title, in the second line, is missing or over 80 bytes; or the fifth line is missing or not empty." ∷
    "A name is missing, empty or over 80 bytes: write a line for each row, then a line for each property." ∷
    "A line of marks is missing, has too few or too many, or has a byte other than X, x, . and ?: correct the line." ∷
    "Something stands behind the last line of marks: take it away, or correct the counts." ∷
    "A mark is unknown, and complete tables are taken only: write X or a dot for it, or ask an expert in an interview." ∷
    "The text is longer than 65,535 bytes or than the output: lend more bytes, or take fewer rows or shorter names." ∷
    "The percentage is above 99: ask for 0 to 99." ∷
    "No row in use has this number: take one below the number of rows in use." ∷
    "A yes would become a no, or a no a yes: take the mark out of those offered; a mark once known stays." ∷
    []
    )

-- the sentence of a refusal number
abbrev pub sentence : ℕ → List ℕ
sentence number = line_number number sentences
