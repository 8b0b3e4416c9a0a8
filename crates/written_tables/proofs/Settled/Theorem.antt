-- Writing settles. For every file that the reader accepts, writing what was read, its rows and its own names where they stand, gives a text,
-- or 30 where that text is too long. That text is read as a table that says the same, and read and written once more it is the same bytes.
use Rattle.std.specs.Prelude.{◌≡◌, ◌⊎◌, List, ◌++◌, ℕ, ◌≤◌, ◌<◌, length, drop, Result, Ok}
use Rattle.std.proofs.Common.{subst, inl, inr}
use Rattle.session.specs.declared.Refusal.{Refusal}
use Rattle.attribute_set.proofs.Sets.Laws.{lt-or-le}
use Rattle.table_layout.specs.declared.Layout.{Layout}
use Rattle.table_layout.specs.Layout.{most_bytes, opened_of}
use Rattle.mark_reading.specs.Marks.{reading, words_read}
use Rattle.mark_reading.proofs.Marks.Laws.{accepts}
use Rattle.written_tables.proofs.Tables.Laws.{text-read}
use Rattle.written_tables.specs.Settled.{names_up_to, text_again, WritesAgain, SettlesOr30}
use Rattle.written_tables.proofs.Settled.Reading.{rows-checked, names-passed}
use Rattle.written_tables.proofs.Settled.Again.{written, refused, same-table, text-again}

pub settled : (file ws : List ℕ) (l : Layout) (end : ℕ) (out : List ℕ) (x : Result ℕ Refusal) (out' : List ℕ) → reading (length ws) file ≡ Ok l
    → l.marks ≤ end → WritesAgain file l ws end out x out' → SettlesOr30 file l ws end out x out'
settled file ws l end out x out' r h w = go (lt-or-le most_bytes (length text)) (lt-or-le (length out) (length text))
  where
    text : List ℕ
    text = text_again file l ws end

    go : (most_bytes < length text) ⊎ (length text ≤ most_bytes) → (length out < length text) ⊎ (length text ≤ length out)
        → SettlesOr30 file l ws end out x out'
    go (inl long) room = inl (refused file ws l r end h out x out' w (inl long), inl long)
    go (inr short) (inl full) = inl (refused file ws l r end h out x out' w (inr full), inr full)
    go (inr short) (inr fits) =
        let opened = (accepts (length ws) (opened_of file) l r).opened in
        let t = text-read l.attributes l.objects (words_read file ws) (names_up_to file l end) (rows-checked file ws l r)
        (names-passed file l opened end h) short in
        let first = written file ws l r end h out x out' w short fits in
        inr (
          first.0,
          first.1,
          record {
            table = t.table;
            opened = t.found.opened;
            same = same-table file ws l r end h t;
            again = λ ws' end' o y o' r' h' w' room.
                let e = text-again file ws l r end h t ws' end' r' h' in
                subst (λ bs. (y ≡ Ok (length bs)) × (o' ≡ bs ++ drop (length bs) o)) e
                (written text ws' t.table r' end' h' o y o' w' (rw e short) (rw e room));
          },
        )
