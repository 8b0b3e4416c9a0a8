-- The beat by its cases, as the code takes them.
use Rattle.std.specs.Prelude.{◌≡◌, Some, None, ℕ, ◌*◌, ◌/◌, ◌≤◌, min, length}
use Rattle.std.proofs.Math.Path.{refl, ap}
use Rattle.std.proofs.Common.{sym, ◌∙◌, arith}
use mathlib.Core.List.{List, [], ◌++◌}
use borrow.Author.Tests.{eq-eqb, ne_eqb}
use Rattle.attribute_set.specs.Sets.{full, without}
use Rattle.implication.proofs.Pairs.Laws.{length_pairs}
use Rattle.implication.specs.Closure.{implication, implications_of}
use Rattle.next_set.specs.Next.{next}
use Rattle.context.specs.Objects.{object, objects_of}
use Rattle.written_marks.specs.Written.{reach_written}
use Rattle.machine.specs.Checks.{force}
use Rattle.machine.specs.Machine.{move_to}
use Rattle.written_machine.specs.Reading.{written_reach, written_question}
use Rattle.text.specs.Page.{Page, text}
use Rattle.output_lines.specs.Lines.{whole_rules, list_lines}
use Rattle.closing_lines.specs.Closing.{end_line}
use Rattle.transcript.specs.Output.{closing}
use Rattle.transcript.specs.Core.{counted, core_reply, core_beat}
use Rattle.interview_replies.specs.declared.Interview.{Interview}
use Rattle.interview_replies.specs.Holding.{holding, Leaves}
use Rattle.interview_replies.proofs.Holding.Laws.{leaves_last, leaves-more}
use Rattle.table_replies.specs.Reply.{Fits}

module _ (i : Interview) (rows list : List ℕ) where
  -- ---- the beat

  -- the end as the code writes it: counts for lengths, and only rules that the lent words have
  pub closing-is : i.rules * 2 ≤ length list
      → list_lines i.n (whole_rules i.rules list) ++ end_line i.rules i.rows i.changes ≡ closing (holding i rows list) i.changes
  closing-is h =
      let e : min i.rules (length list / 2) ≡ i.rules = omega (arith, h) in
      ap (λ k. list_lines i.n (implications_of k list) ++ end_line i.rules i.rows i.changes) e
      ∙ ap (λ k. list_lines i.n (implications_of i.rules list) ++ end_line k i.rows i.changes) (sym (length_pairs implication i.rules list))
      ∙ ap (λ k. list_lines i.n (implications_of i.rules list) ++ end_line (length (implications_of i.rules list)) k i.changes)
      (sym (length_pairs object i.rows rows))

  module _ (objects : ℕ) (table : List ℕ) (fits : Fits i objects table rows list) (m : ℕ) (all : m ≡ full (min i.n 64)) where
    -- a word has an attribute for each
    limit : min i.n 64 ≡ i.n
    limit = omega (arith, fits.attributes)

    whole : m ≡ full i.n
    whole = all ∙ ap full limit

    pub beat-end : (end : ℕ) {p p' : Page} → i.current ≡ m → p' ≡ text p (closing (holding i rows list) i.changes)
        → Leaves (core_beat (objects_of objects table) (holding i rows list) i.changes) (record { next = None; at = end }) rows list p p'
    unfolding core_beat
    beat-end end {p} {p'} e t = leaves_last _ _ i end rows list p p' t (rw (core_beat, eq-eqb _ _ (e ∙ whole)))

    module _ (r : ℕ) (open' : i.current ≡ m → ⊥) (found : r ≡ reach_written (min i.n 64) (objects_of i.rows rows) i.current) where
      below : i.current ≡ full i.n → ⊥
      below e = open' (e ∙ sym whole)

      reached : r ≡ written_reach (holding i rows list)
      reached = found ∙ ap (λ k. reach_written k (objects_of i.rows rows) i.current) limit

      -- the table's reply to the question from the current set to the rest of its reach
      pub beat-reply : (conclusion : ℕ) → conclusion ≡ without r i.current → (r ≡ i.current → ⊥)
          → core_beat (objects_of objects table) (holding i rows list) i.changes
          ≡ core_reply (objects_of objects table) (holding i rows list) i.changes (implication i.current conclusion)
      unfolding core_beat
      beat-reply conclusion rest d =
          rw (core_beat, ne_eqb _ _ below, ne_eqb _ _ (λ e. d (reached ∙ e)))
          (ap (core_reply (objects_of objects table) (holding i rows list) i.changes) (sym question))
        where
          question : implication i.current conclusion ≡ written_question (holding i rows list)
          question = ap (implication i.current) (rest ∙ ap (λ x. without x i.current) reached)

      pub beat-move : (at : ℕ) (p : Page) (current changes : ℕ) → r ≡ i.current
          → current ≡ next (force (holding i rows list)) (min i.n 64) i.current → changes ≡ counted i.changes
          → Leaves (core_beat (objects_of objects table) (holding i rows list) i.changes)
          (record { next = Some (record { n = i.n; rows = i.rows; rules = i.rules; current = current; changes = changes }); at = at })
          rows list p p
      unfolding core_beat text
      beat-move at p current changes e n k =
          let s = holding i rows list in
          leaves-more _ [] _ at rows list p p refl (move_to s (next (force s) i.n i.current)) (counted i.changes)
          (ap (move_to s) (n ∙ ap (λ x. next (force s) x i.current) limit)) k
          (rw (core_beat, ne_eqb _ _ below, eq-eqb _ _ (sym reached ∙ e)))
