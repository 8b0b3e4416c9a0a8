-- A table file written anew (02, request 2/13: a file written from what was read): what is read of it into the row words of a session is
-- written with the file's own names, where they stand in it.
use Rattle.std.specs.Prelude.{◌≡◌, List, ℕ, ◌*◌, ◌≤◌, length, take, replicate, Result, Ok, Err}
use Rattle.table_layout.specs.declared.Layout.{Layout}
use Rattle.session.specs.declared.Refusal.{Refusal}
use Rattle.session.specs.Limits.{most_objects}
use Rattle.text.specs.Page.{Buffer, Bytes as LentBytes}
use Rattle.table_layout.specs.Layout.{opened_of}
use Rattle.written_tables.specs.Settled.{WritesAgain, SettlesOr30}

-- the row words of a session before the reading
abbrev pub no_rows : List ℕ
no_rows = replicate (most_objects * 2) 0

-- by what the file opens as: the call that writes what was read of it; or the reader's refusal, and every byte of the output is kept
abbrev pub RewritesAs : Result Layout Refusal → List ℕ → List ℕ → Result ℕ Refusal → List ℕ → Type 0
RewritesAs (Ok l) file out x out' = WritesAgain file l no_rows (length file) out x out'
RewritesAs (Err r) file out x out' = (x ≡ Err r) × (out' ≡ out)

abbrev pub RewritesFrom : List ℕ → List ℕ → Result ℕ Refusal → List ℕ → Type 0
RewritesFrom file out x out' = RewritesAs (opened_of file) file out x out'

-- What writing a file anew promises of the answer and of the lent output.
abbrev pub Rewrites : LentBytes → Buffer → Result ℕ Refusal → Type 0
Rewrites file out x = RewritesFrom file.entry.now out.entry.now x out.exit.now

-- by what the file opens as: what is written of it settles, or it is refused with 30; or the reader's refusal, and every byte of the output
-- is kept
abbrev pub SettlesAs : Result Layout Refusal → List ℕ → List ℕ → Result ℕ Refusal → List ℕ → Type 0
SettlesAs (Ok l) file out x out' = SettlesOr30 file l no_rows (length file) out x out'
SettlesAs (Err r) file out x out' = (x ≡ Err r) × (out' ≡ out)

-- the same bytes: a text of so many bytes that an output begins with, written anew into any output that has room for it
abbrev pub SameAgain : ℕ → List ℕ → Type 0
SameAgain size out =
    (out₂ : List ℕ) (x : Result ℕ Refusal) (out' : List ℕ) → RewritesFrom (take size out) out₂ x out' → size ≤ length out₂
    → (x ≡ Ok size) × (take size out' ≡ take size out)
