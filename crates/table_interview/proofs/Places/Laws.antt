-- The opening with no rows and no background; the rows of a complete table, once they are read; the places taken of those there are.
use Rattle.std.specs.Prelude.{◌≡◌, refl, List, [], ℕ, ◌*◌, ◌≤◌, min, length, take, drop, Result, Ok}
use Rattle.std.proofs.Common.{sym, ap, ◌∙◌, subst, arith, length-take-le}
use Rattle.session.specs.declared.Refusal.{Refusal}
use Rattle.session.specs.declared.Session.{Session}
use Rattle.implication.specs.Pairs.{pairs}
use Rattle.context.specs.Objects.{objects_of}
use Rattle.context.specs.Tables.{Table}
use Rattle.session.specs.Limits.{most_objects, most_implications}
use Rattle.machine.specs.Machine.{opening}
use Rattle.machine.specs.Calls.{opening_from}
use Rattle.session_opening.specs.Opening.{opening_of}
use Rattle.mark_reading.specs.Marks.{words_of_rows, complete_reading, complete_words_read}
use Rattle.mark_reading.proofs.Marks.Laws.{rows-held, complete-reading, complete-words}
use Rattle.table_layout.proofs.OfLayout.Passed.{table-objects}
use Rattle.complete_tables.proofs.Complete.Laws.{complete-layout, complete-table}
use Rattle.table_layout.specs.declared.Layout.{Layout}
use Rattle.table_interview.specs.Places.{lent_of, places_for, Holds, ReadComplete}

-- the opening with no rows and no background
opening-from : (n : ℕ) (rows list : List ℕ) → opening_from n 0 rows list [] ≡ opening n (lent_of (length rows) (length list)) [] []
unfolding pairs
opening-from n rows list = refl

-- what the code opens with, as the machine says it
pub opening-found : (n : ℕ) (rows list : List ℕ) (o x : Result Session Refusal) → opening_of o rows list [] ≡ opening_from n 0 rows list [] → o ≡ x
    → opening_of x rows list [] ≡ opening n (lent_of (length rows) (length list)) [] []
opening-found n rows list o x h e = sym (ap (λ y. opening_of y rows list []) e) ∙ h ∙ opening-from n rows list

-- ---- the table

-- the complete reading into words for all rows of a session finds the file's table, and the words then hold its rows
pub table-read : (file words words' : List ℕ) (r : Result Layout Refusal) → length words ≡ most_objects * 2 → r ≡ complete_reading (length words) file
    → words' ≡ complete_words_read file words → ReadComplete file words' r
table-read file words words' r w a h =
    let answer = a ∙ ap (λ (k : ℕ). complete_reading k file) w ∙ complete-reading file in
    record {
      answer = answer;
      rows = λ l e.
          ap (objects_of l.objects) (h ∙ complete-words file words w ∙ ap (λ (o : Result Layout Refusal). words_of_rows o file words) (sym answer ∙ e))
          ∙ rows-held l.objects file l.marks (drop (l.objects * 2) words);
    }

-- the words of all places hold the table that was found
pub read-holds : (file words : List ℕ) (l : Layout) (r : Result Layout Refusal) → ReadComplete file words r → r ≡ Ok l → length words ≡ most_objects * 2
    → Holds l.attributes l.objects words
read-holds file words l r h e w =
    let f = sym h.answer ∙ e in
    record {
      complete = subst (λ os. Table l.attributes os) (sym (h.rows l e)) (complete-table file l f);
      in_table = omega (arith, w, table-objects file l (complete-layout file l f));
    }

-- ---- the places

-- the first words: as many places as are wanted, of those that there are
pub words-taken : (wanted most k : ℕ) (words : List ℕ) → k ≡ min wanted most → most * 2 ≤ length words → length (take (k * 2) words) ≡ k * 2
words-taken wanted most k words e h = length-take-le (k * 2) words (omega arith)

pub places-taken : (rows rules k j : ℕ) (words list : List ℕ) → k ≡ min rows most_objects → j ≡ min rules most_implications
    → most_objects * 2 ≤ length words → most_implications * 2 ≤ length list
    → lent_of (length (take (k * 2) words)) (length (take (j * 2) list)) ≡ places_for rows rules
places-taken rows rules k j words list e f h i =
    ap (λ x. lent_of x (length (take (j * 2) list))) (words-taken rows most_objects k words e (omega arith) ∙ ap (λ x. x * 2) e)
    ∙ ap (lent_of (min rows most_objects * 2)) (words-taken rules most_implications j list f (omega arith) ∙ ap (λ x. x * 2) f)
