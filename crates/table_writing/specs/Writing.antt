-- Writing a table file (02, request 2/13): what is answered, and what the lent output holds then. n attributes (01: properties), so many
-- rows in use, the row words, and the names, lent as lines.
use Rattle.std.specs.Prelude.{◌≡◌, Bool, true, false, ◌||◌, List, [], ◌∷◌, ◌++◌, ℕ, ◌+◌, length, drop, replicate, ltb, Result, Ok, Err}
use Rattle.std.proofs.Math.Option.{Option, none, some}
use Rattle.session.specs.declared.Refusal.{Refusal}
use Rattle.table_kinds.specs.declared.Kind.TheVariants.{Name}
use Rattle.line_walk.specs.Walk.{walk}
use Rattle.table_walk.specs.Walk.{place_of}
use Rattle.table_layout.specs.Layout.{most_bytes}
use Rattle.text.specs.Page.{Buffer, Bytes as LentBytes}
use Rattle.machine.specs.Checks.{Check, check, first_failing}
use Rattle.machine.specs.Calls.{Words}
use Rattle.row_checks.specs.Rows.{row_checks}
use Rattle.table_text.specs.Table.{text_of}
pub mod Names
pub mod Places

-- the names needed, in order: the first that is missing, empty or too long, or where they end
abbrev pub names_walk : ℕ → ℕ → List ℕ → Result ℕ Refusal
names_walk n used names = walk (replicate (used + n) Name) names 0

abbrev pub is_failed : Result ℕ Refusal → Bool
is_failed (Ok at) = false
is_failed (Err r) = true

-- a text of so many bytes is longer than a table file, or than a lent output
abbrev pub is_long : ℕ → ℕ → Bool
is_long room size = ltb most_bytes size || ltb room size

-- the checks in their order, for a lent output of so many bytes: 1 to 5; a bad name, at its offset in the lent names; a text that is too long
unfoldable pub write_checks : ℕ → ℕ → List ℕ → List ℕ → ℕ → List Check
write_checks n used words names room =
    row_checks n used words
    ++ (check 26 (is_failed (names_walk n used names)) (place_of (names_walk n used names))
    ∷ check 30 (is_long room (length (text_of n used words names))) 0
    ∷ [])

-- the checks before 26 pass, and 26 does
abbrev pub RowsPass : ℕ → ℕ → List ℕ → Type 0
RowsPass n used words = first_failing (row_checks n used words) ≡ none

abbrev pub NamesPass : ℕ → ℕ → List ℕ → Type 0
NamesPass n used names = is_failed (names_walk n used names) ≡ false

-- what writing a table answers: how many bytes the text has, or the first check that fails
abbrev pub written_by : Option Refusal → ℕ → Result ℕ Refusal
written_by none size = Ok size
written_by (some r) size = Err r

abbrev pub writing : ℕ → ℕ → List ℕ → List ℕ → ℕ → Result ℕ Refusal
writing n used words names room =
    written_by (first_failing (write_checks n used words names room)) (length (text_of n used words names))

-- the output then: the text, and behind it the bytes that were there; on a refusal every byte that was there
abbrev pub output_after : Result ℕ Refusal → List ℕ → List ℕ → List ℕ
output_after (Ok size) text out = text ++ drop size out
output_after (Err r) text out = out

-- What writing promises of the answer and of the lent output.
pub record WritesFrom (n used : ℕ) (words names out : List ℕ) (x : Result ℕ Refusal) (out' : List ℕ) : Type 0 where
  pub answer : x ≡ writing n used words names (length out)
  pub output : out' ≡ output_after x (text_of n used words names) out

-- over the lent slices: row words, names, output
abbrev pub Writes : ℕ → ℕ → Words → LentBytes → Buffer → Result ℕ Refusal → Type 0
Writes n used rows names out x =
    WritesFrom n used rows.entry.now names.entry.now out.entry.now x out.exit.now
