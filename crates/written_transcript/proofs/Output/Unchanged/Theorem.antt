-- The program's output is the one by written marks: along an interview of a complete table each call of a beat is the one by written
-- marks (`same-beat`), since the rows filed and the row offered are rows of the table; so all beats are (`same-beats`).
use Rattle.std.specs.Prelude.{◌≡◌, Bool, true, false, List, [], ◌++◌, length, get_or, ltb, Result, Ok, Err}
use Rattle.std.proofs.Math.Path.{refl, ap}
use Rattle.std.proofs.Common.{sym, ◌∙◌}
use Prim.Native.Nat.{ℕ, zero, suc, ◌+◌}
use Rattle.session.specs.declared.Refusal.{Refusal}
use Rattle.theory.specs.Lists.{All}
use Rattle.theory.specs.Implications.{Implication}
use Rattle.context.specs.Objects.{Object, object, first_written}
use Rattle.context.specs.Tables.{Complete}
use Rattle.machine.specs.Checks.{Lent, State}
use Rattle.machine.specs.Machine.{step, accept, reject, Answer, finished, moved, asked, taken, followed, refuted, unrefuted, refuting, refused, Turn, perform, opened, rejected, Opening, opening}
use Rattle.written_machine.specs.Reading.{written_perform}
use Rattle.written_machine.proofs.Reading.Unchanged.Theorem.{unchanged}
use Rattle.table_layout.specs.Layout.{opened_of}
use Rattle.complete_tables.specs.Complete.{complete_of}
use Rattle.complete_tables.proofs.Complete.Laws.{complete-table}
use Rattle.table_layout.specs.declared.Layout.{Layout}
use Rattle.output_lines.specs.Lines.{yes_line, no_line}
use Rattle.transcript.specs.Output.{Beat, more, last, replied, answered, stepped, beat, beats, enough, interviewed, table_of, written, output_with, places}
use Rattle.transcript.specs.Core.Along.{Along, row-consistent}
use Rattle.transcript.proofs.Core.Beats.{row-refutes, core-beat}
use Rattle.transcript.proofs.Core.Kept.{core-along, opened-along}
use Rattle.written_transcript.specs.Output.{written_answered, written_stepped, written_beat, written_beats, written_interviewed, written_from, written_output_with}
use Rattle.written_transcript.specs.Output.Unchanged.{Unchanged}

-- ---- a beat

module _ (table : List Object) (s : State) (changes : ℕ) (a : Along table s changes) where
  rows-complete : All (Complete s.n) s.rows
  rows-complete o m = a.complete o (a.rows o m)

  same_answer : (q : Implication ℕ) → answered table s changes q ≡ written_answered table s changes q
  unfolding answered written_answered
  same_answer q = go (ltb row (length table)) refl
    where
      row : ℕ
      row = first_written table q

      o : Object
      o = get_or table row (object 0 0)

      no : Turn → Beat
      no t = replied (no_line s.n q (row + 1)) changes t.answer t.after

      yes : Turn → Beat
      yes t = replied (yes_line s.n q) (suc changes) t.answer t.after

      go : (b : Bool) → ltb row (length table) ≡ b
          → ◌≡◌ {A = Beat} (elim b [ true ↦ no (perform s (reject o)) | false ↦ yes (perform s accept) ])
          (elim b [ true ↦ no (written_perform s (reject o)) | false ↦ yes (written_perform s accept) ])
      go true e =
          let m = (row-refutes table q e).member in
          ap no (unchanged.unchanged s (reject o) rows-complete (a.complete o m, row-consistent table s changes a o m))
      go false e = ap yes (unchanged.unchanged s accept rows-complete tt)

  same-stepped : (r : Answer) (s' : State) → stepped table s changes r s' ≡ written_stepped table s changes r s'
  same-stepped finished s' = refl
  same-stepped moved s' = refl
  same-stepped (asked q) s' = same_answer q
  same-stepped taken s' = refl
  same-stepped (followed b) s' = refl
  same-stepped (refuted p) s' = refl
  same-stepped unrefuted s' = refl
  same-stepped refuting s' = refl
  same-stepped (refused r) s' = refl

  same-beat : beat table s changes ≡ written_beat table s changes
  unfolding beat written_beat
  same-beat =
      let t = perform s step in
      same-stepped t.answer t.after
      ∙ ap (λ (x : Turn). written_stepped table s changes x.answer x.after) (unchanged.unchanged s step rows-complete tt)

-- ---- all beats

same-beats : (k : ℕ) (table : List Object) (s : State) (changes : ℕ) → Along table s changes → beats k table s changes ≡ written_beats k table s changes
unfolding beats written_beats
same-beats zero table s changes a = refl
same-beats (suc k) table s changes a =
    go (beat table s changes) refl (same-beats k table)
    ∙ ap (λ b. elim b as (λ x. List ℕ) [ more line s' c' ↦ line ++ written_beats k table s' c' | last line ↦ line ]) (same-beat table s changes a)
  where
    go : (b : Beat) → beat table s changes ≡ b
        → ((s' : State) (c' : ℕ) → Along table s' c' → beats k table s' c' ≡ written_beats k table s' c')
        → ◌≡◌ {A = List ℕ} (elim b [ more line s' c' ↦ line ++ beats k table s' c' | last line ↦ line ])
        (elim b [ more line s' c' ↦ line ++ written_beats k table s' c' | last line ↦ line ])
    go (more line s' c') e ih =
        ap (λ l. line ++ l) (ih s' c' (core-along table s changes a line s' c' (sym (core-beat table s changes a) ∙ e)))
    go (last line) e ih = refl

-- ---- the output

same-output : (lent : Lent) (file : List ℕ) → output_with lent file ≡ written_output_with lent file
unfolding output_with written_output_with
same-output lent file = go (complete_of file (opened_of file)) refl
  where
    held : (l : Layout) → complete_of file (opened_of file) ≡ Ok l → (o : Opening) → opening l.attributes lent [] [] ≡ o
        → interviewed (table_of file l) o ≡ written_interviewed (table_of file l) o
    held l e (opened s) f = same-beats (enough s) (table_of file l) s 0 (opened-along (table_of file l) l.attributes lent s (complete-table file l e) f)
    held l e (rejected r) f = refl

    go : (x : Result Layout Refusal) → complete_of file (opened_of file) ≡ x → written lent file x ≡ written_from lent file x
    go (Ok l) e = held l e (opening l.attributes lent [] []) refl
    go (Err r) e = refl

pub transcript-unchanged : Unchanged
transcript-unchanged = record { with_places = same-output; output = same-output places }
