-- The reader's answers in three words, a code and two values, and the layout after a call (01, "The table file"). A table that is
-- opened is answered like an accepted reply; a refusal has its own number and its offset, and leaves the layout.
use Rattle.std.specs.Prelude.{◌≡◌, Bool, true, false, List, ℕ, length, eqb, Result, Ok, Err}
use denote.Triple.Both.{Both}
use Rattle.std.specs.Borrow.{Bor, MutBor}
use Rattle.session.specs.declared.Refusal.{Refusal}
use Rattle.answer_words.specs.declared.Answer.{Answer as Coded}
use Rattle.answer_words.specs.Codes.{coded, LentAnswer}
use Rattle.table_layout.specs.declared.Layout.{Layout}
use Rattle.mark_reading.specs.Marks.{reading_as, words_of_rows}
use Rattle.name_spans.specs.declared.Span.{Span}

abbrev pub code_of_opened : Result Layout Refusal → Coded
code_of_opened (Ok l) = coded 103 0 0
code_of_opened (Err r) = coded r.number r.place 0

abbrev pub layout_after : Result Layout Refusal → Layout → Layout
layout_after (Ok l) given = l
layout_after (Err r) given = given

-- whether a layout was found
abbrev pub is_found : Result Layout Refusal → Bool
is_found (Ok l) = true
is_found (Err r) = false

-- What opening a table promises of the layout that is kept and of the answer: the file was opened as said.
pub record OpensTable (opened : Result Layout Refusal) (before : Layout) (x : Coded) (after : Layout) : Type 0 where
  pub answer : x ≡ code_of_opened opened
  pub layout : after ≡ layout_after opened before

-- over a lent layout, with the answer put where the caller says
abbrev pub OpensTableOn : Result Layout Refusal → Both (MutBor Layout) (MutBor Layout) → LentAnswer → Type 0
OpensTableOn opened layout answer = OpensTable opened layout.entry.now answer.exit.now layout.exit.now

-- the same, and whether the layout changed
pub record FindsTable (opened : Result Layout Refusal) (before : Layout) (x : Coded) (after : Layout) (changed : Bool) : Type 0 where
  pub opens : OpensTable opened before x after
  pub change : changed ≡ is_found opened

-- What reading the marks of an opened table promises: the answer, and the row words.
pub record MarksRead (opened : Result Layout Refusal) (file words : List ℕ) (x : Coded) (words' : List ℕ) : Type 0 where
  pub answer : x ≡ code_of_opened opened
  pub written : words' ≡ words_of_rows opened file words

abbrev pub ReadsMarks : Layout → Both (Bor (List ℕ)) (Bor (List ℕ)) → Both (MutBor (List ℕ)) (MutBor (List ℕ)) → Coded → Type 0
ReadsMarks layout file rows x =
    MarksRead (reading_as layout (length rows.entry.now) file.entry.now) file.entry.now rows.entry.now x rows.exit.now

-- where a name stands: its offset and how many bytes it has; no name is empty, so that no bytes are refusal 3
abbrev pub code_of_span : Span → Coded
code_of_span s = elim (eqb s.size 0) [ true ↦ coded 3 0 0 | false ↦ coded 103 s.at s.size ]
