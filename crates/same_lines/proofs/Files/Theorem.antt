-- What a table file says depends on its lines alone: two files of at most 65,535 bytes with the same lines, whatever their ends, say the
-- same (`same_lines`), and the same line has the same number in both (`same_number`). So a file says the same whichever end its last line
-- has, and with none (`last-line-same`). The place of a refusal is where a line begins, or the end of the file (`refused-at-a-line`).
use Rattle.std.specs.Prelude.{◌≡◌, refl, List, [], ◌∷◌, ◌++◌, ℕ, ◌≤◌, length, Err}
use Rattle.std.proofs.Common.{sym, subst, ◌∙◌, arith, length-append}
use Rattle.table_lines.specs.Lines.{IsEnd, NoEnd, skipped}
use Rattle.table_lines.specs.Pieces.{lines_of}
use Rattle.table_lines.proofs.Pieces.Laws.{last-line-end}
use Rattle.line_numbers.specs.Numbers.{number_of_line}
use Rattle.line_numbers.proofs.Numbers.Laws.{number-start}
use Rattle.table_layout.specs.Layout.{most_bytes, opened_of}
use Rattle.complete_tables.specs.Complete.{opened_complete}
use Rattle.mark_reading.specs.Marks.{reading, complete_reading}
use Rattle.session.specs.declared.Refusal.{Refusal}
use Rattle.same_lines.specs.Files.{SameLine, SameAnswer, SaySame}
use Rattle.same_lines.proofs.Files.Tables.{opened-same, complete-same, reading-same, words_same}

module _ (f g : List ℕ) where
  pub same_lines : length f ≤ most_bytes → length g ≤ most_bytes → lines_of f ≡ lines_of g → SaySame f g
  same_lines h h' e =
      let o = opened-same f g e h h' in
      let c = complete-same f g e (opened_of f) (opened_of g) o in
      record {
        opened = o;
        complete_opened = c;
        read = λ words.
            let k = length words in
            let r = reading-same f g e k (opened_of f) (opened_of g) o in
            (r, words_same f g e words (reading k f) (reading k g) r);
        read_complete = λ words.
            let k = length words in
            let r = reading-same f g e k (opened_complete f) (opened_complete g) c in
            (r, words_same f g e words (complete_reading k f) (complete_reading k g) r);
      }

pub same_number : (f g : List ℕ) (at at' : ℕ) → lines_of f ≡ lines_of g → SameLine f g at at' → number_of_line f at ≡ number_of_line g at'
same_number f g at at' e s =
    rw (s.2, s.3) (number-start f s.0 s.1 ∙ sym (number-start g s.0 (rw (sym e) s.1)))

-- the line is missing where all lines stand before it
pub refused-at-a-line : (file : List ℕ) (r : Refusal) → length file ≤ most_bytes → opened_complete file ≡ Err r
    → (i : ℕ) × (i ≤ length (lines_of file)) × (r.place ≡ skipped i file 0)
refused-at-a-line file r h e =
    let s = (subst (λ o. SameAnswer file file o o) e (same_lines file file h h refl).complete_opened).1 in
    (s.0, s.1, s.2)

-- a file whose last byte is none of an end, with an end behind it and without
pub last-line-same : (bs : List ℕ) (b : ℕ) (e : List ℕ) → NoEnd b → IsEnd e [] → length (bs ++ (b ∷ e)) ≤ most_bytes
    → SaySame (bs ++ (b ∷ e)) (bs ++ (b ∷ []))
last-line-same bs b e n p h =
    same_lines (bs ++ (b ∷ e)) (bs ++ (b ∷ [])) h (omega (arith, length-append bs (b ∷ e), length-append bs (b ∷ [])))
    (last-line-end b n e p bs)
