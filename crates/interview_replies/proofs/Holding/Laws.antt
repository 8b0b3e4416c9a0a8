-- What a beat leaves, by how it goes on; no and yes by their cases, as the code takes them.
use Rattle.std.specs.Prelude.{◌≡◌, Some, None, ℕ, ◌+◌, ◌*◌, ◌/◌, ◌<◌, ◌≤◌, min}
use Rattle.std.proofs.Math.Path.{refl}
use Rattle.std.proofs.Common.{sym, ap, ◌∙◌, subst, arith}
use mathlib.Core.List.{List, []}
use Rattle.std.proofs.Math.ListN.{length, set}
use borrow.Author.Tests.{le-leb, lt-leb}
use Rattle.implication.proofs.Pairs.Laws.{length_pairs}
use Rattle.implication.specs.Closure.{implication, implications_of, in_force}
use Rattle.next_set.specs.Next.{next}
use Rattle.context.specs.Objects.{object, objects_of}
use Rattle.session.specs.Limits.{most_attributes}
use Rattle.machine.specs.Checks.{State}
use Rattle.machine.specs.Machine.{agreeing, after_filing}
use Rattle.machine.specs.Calls.{state_of}
use Rattle.session.specs.declared.Session.{Session}
use Rattle.session_replies.proofs.Answers.Laws.{yes-holds, filing-holds}
use Rattle.text.specs.Page.{Page, text}
use Rattle.text.proofs.Page.Laws.{text-on}
use Rattle.output_lines.specs.Lines.{yes_line, no_line}
use Rattle.closing_lines.specs.Closing.{refusal_line}
use Rattle.transcript.specs.Output.{Beat, more, last}
use Rattle.transcript.specs.Core.{counted, no_place_refusal, core_no, core_yes}
use Rattle.interview_replies.specs.declared.Interview.{Interview}
use Rattle.interview_replies.specs.declared.Beaten.{Beaten}
use Rattle.interview_replies.specs.Holding.{holding, line_written, Leaves}

-- ---- what is left, by how the beat goes on

module _ (b : Beat) (line : List ℕ) (i : Interview) (at : ℕ) (rows list : List ℕ) (p p' : Page) (t : p' ≡ text p line) where
  pub leaves_last : b ≡ last line → Leaves b (record { next = None; at = at }) rows list p p'
  leaves_last e = record { state = ap (λ x. last (line_written x)) e ∙ sym e; line = t ∙ sym (ap (λ x. text p (line_written x)) e) }

  pub leaves-more : (s : State) (changes : ℕ) → holding i rows list ≡ s → i.changes ≡ changes → b ≡ more line s changes
      → Leaves b (record { next = Some i; at = at }) rows list p p'
  leaves-more s changes f g e = record {
    state = ap (λ x. more (line_written b) x i.changes) f ∙ ap (λ x. more (line_written b) s x) g
        ∙ ap (λ x. more (line_written x) s changes) e ∙ sym e;
    line = t ∙ sym (ap (λ x. text p (line_written x)) e);
  }

-- a beat that is another
pub leaves-same : {b b' : Beat} {r : Beaten} {rows list : List ℕ} {p p' : Page} → b ≡ b' → Leaves b' r rows list p p' → Leaves b r rows list p p'
leaves-same {r = r} {rows} {list} {p} {p'} e h = subst (λ x. Leaves x r rows list p p') (sym e) h

module _ (i : Interview) (rows list : List ℕ) where
  module _ (conclusion : ℕ) where
    -- ---- no

    module _ (number yes no end : ℕ) {p p' : Page} (t : p' ≡ text p (no_line i.n (implication i.current conclusion) number)) where
      -- no place is left: the refusal behind the Q line
      pub no-full : {p'' : Page} → length rows / 2 ≤ i.rows → p'' ≡ text p' (refusal_line no_place_refusal)
          → Leaves (core_no (holding i rows list) i.changes (implication i.current conclusion) number (object yes no))
          (record { next = None; at = end }) rows list p p''
      unfolding core_no
      no-full h f =
          let l : length rows / 2 ≤ length (objects_of i.rows rows) = omega (arith, length_pairs object i.rows rows) in
          leaves_last _ _ i end rows list p _ (text-on p _ _ t f) (rw (core_no, le-leb _ _ l))

      -- the row is filed
      pub no-free : i.rows < length rows / 2
          → Leaves (core_no (holding i rows list) i.changes (implication i.current conclusion) number (object yes no))
          (record { next = Some (record { n = i.n; rows = i.rows + 1; rules = i.rules; current = i.current; changes = i.changes }); at = end })
          (set (set rows (i.rows * 2) yes) (i.rows * 2 + 1) no) list p p'
      unfolding core_no
      no-free h =
          let l : length (objects_of i.rows rows) < length rows / 2 = omega (arith, length_pairs object i.rows rows) in
          let x : Session = record { n = i.n; rows = i.rows; rules = i.rules; current = i.current } in
          leaves-more _ _ _ end _ list p p' t (after_filing (holding i rows list) (object yes no)) i.changes
          (filing-holds x rows list [] yes no (omega arith)) refl (rw (core_no, lt-leb _ _ l))

    -- ---- yes

    module _ (end : ℕ) {p p' : Page} (t : p' ≡ text p (yes_line i.n (implication i.current conclusion))) where
      -- no place is left: the refusal behind the Q line
      pub yes-full : {p'' : Page} → length list / 2 ≤ i.rules → p'' ≡ text p' (refusal_line no_place_refusal)
          → Leaves (core_yes (holding i rows list) i.changes (implication i.current conclusion))
          (record { next = None; at = end }) rows list p p''
      unfolding core_yes
      yes-full h f =
          let l : length list / 2 ≤ length (implications_of i.rules list) = omega (arith, length_pairs implication i.rules list) in
          leaves_last _ _ i end rows list p _ (text-on p _ _ t f) (rw (core_yes, le-leb _ _ l))

      -- the implication asked about is in the list, and the current set the next one
      pub yes-free : i.n ≤ most_attributes → i.rules < length list / 2
          → let words = set (set list (i.rules * 2) i.current) (i.rules * 2 + 1) conclusion in
          (current changes : ℕ) → current ≡ next (in_force [] words (i.rules + 1)) (min i.n 64) i.current → changes ≡ counted i.changes
          → Leaves (core_yes (holding i rows list) i.changes (implication i.current conclusion))
          (record { next = Some (record { n = i.n; rows = i.rows; rules = i.rules + 1; current = current; changes = changes }); at = end })
          rows words p p'
      unfolding core_yes
      yes-free small h current changes e k =
          let l : length (implications_of i.rules list) < length list / 2 = omega (arith, length_pairs implication i.rules list) in
          let words = set (set list (i.rules * 2) i.current) (i.rules * 2 + 1) conclusion in
          let x : Session = record { n = i.n; rows = i.rows; rules = i.rules; current = i.current } in
          leaves-more _ _ _ end rows words p p' t (agreeing (holding i rows list) (implication i.current conclusion)) (counted i.changes)
          (ap (λ c. state_of (record { n = i.n; rows = i.rows; rules = i.rules + 1; current = c }) rows words []) e
          ∙ yes-holds x rows list [] i.current conclusion small (omega arith)) k (rw (core_yes, lt-leb _ _ l))
