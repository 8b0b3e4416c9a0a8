-- What it means that writing settles (02, request 2/13: a file written from what was read, then read and written once more, has the same
-- bytes). Of a file that was read, its counts, the words of its rows and its own names are written, the names where they stand in it.
use Rattle.std.specs.Prelude.{◌≡◌, ◌⊎◌, List, ◌++◌, ℕ, ◌-◌, ◌≤◌, ◌<◌, length, take, drop, Result, Ok, Err}
use Rattle.session.specs.declared.Refusal.{Refusal}
use Rattle.session.specs.Refusals.{refusal}
use Rattle.table_layout.specs.declared.Layout.{Layout}
use Rattle.table_layout.specs.Layout.{most_bytes, opened_of}
use Rattle.mark_reading.specs.Marks.{reading, words_read}
use Rattle.same_lines.specs.Files.{SameTable}
use Rattle.table_text.specs.Table.{text_of}
use Rattle.table_writing.specs.Writing.{WritesFrom}

-- the part of a file from where its names begin up to an offset
abbrev pub names_up_to : List ℕ → Layout → ℕ → List ℕ
names_up_to file l end = take (end - l.object_names) (drop l.object_names file)

-- the text of what was read of a file into row words, and the call that writes it into an output
abbrev pub text_again : List ℕ → Layout → List ℕ → ℕ → List ℕ
text_again file l ws end = text_of l.attributes l.objects (words_read file ws) (names_up_to file l end)

abbrev pub WritesAgain : List ℕ → Layout → List ℕ → ℕ → List ℕ → Result ℕ Refusal → List ℕ → Type 0
WritesAgain file l ws end out x out' =
    WritesFrom l.attributes l.objects (words_read file ws) (names_up_to file l end) out x out'

-- The text is read as a table that says the same as the file's; and what is read of it, into any row words, and written once more, into
-- any output that has room for it, is the same bytes.
pub record Settles (file : List ℕ) (l : Layout) (text : List ℕ) : Type 0 where
  pub table : Layout
  pub opened : opened_of text ≡ Ok table
  pub same : SameTable file text l table
  pub again : (ws : List ℕ) (end : ℕ) (out : List ℕ) (x : Result ℕ Refusal) (out' : List ℕ) → reading (length ws) text ≡ Ok table
      → table.marks ≤ end → WritesAgain text table ws end out x out' → length text ≤ length out
      → (x ≡ Ok (length text)) × (out' ≡ text ++ drop (length text) out)

-- what is written of a file settles, or it is refused with 30, as it is longer than a table file or than the output
abbrev pub SettlesOr30 : List ℕ → Layout → List ℕ → ℕ → List ℕ → Result ℕ Refusal → List ℕ → Type 0
SettlesOr30 file l ws end out x out' =
    let text = text_again file l ws end in
    ((x ≡ Err (refusal 30 0)) × ((most_bytes < length text) ⊎ (length out < length text)))
    ⊎ ((x ≡ Ok (length text)) × (out' ≡ text ++ drop (length text) out) × Settles file l text)
