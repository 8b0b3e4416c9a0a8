-- However long the interview, its output is short (`size`): before the end only a reply writes a line, and there are at most
-- 512 + 256 accepted ones and one refused.
use Rattle.std.specs.Prelude.{◌≡◌, Bool, not, ℕ, zero, suc, ◌+◌, ◌*◌, ◌-◌, ◌/◌, ◌%◌, ◌≤◌, ◌<◌, eqb, ltb}
use Rattle.std.proofs.Math.Path.{refl}
use Rattle.std.proofs.Common.{sym, subst}
use Rattle.std.proofs.Math.Bool.{true, false}
use mathlib.Core.List.{List, [], ◌∷◌, ◌++◌}
use native.Mathlib.Omega.{arith}
use Rattle.std.proofs.Math.ListN.{length, length-append}
use Rattle.std.proofs.Math.Dec.{leb}
use borrow.Author.Tests.{ltb-false, leb-false}
use Rattle.theory.specs.Implications.{Implication}
use Rattle.attribute_set.specs.Sets.{full}
use Rattle.context.specs.Objects.{Object}
use Rattle.session.specs.Limits.{bad_length, most_attributes, most_objects, most_implications}
use Rattle.machine.specs.Checks.{State}
use Rattle.machine.proofs.Checks.Laws.{or-false}
use Rattle.machine.specs.Machine.{after_move, agreeing, after_filing}
use Rattle.written_machine.specs.Reading.{written_reach, written_question}
use Rattle.text.specs.Text.{number_text}
use Rattle.text.proofs.Text.Digits.Laws.{number_short}
use Rattle.output_lines.specs.Lines.{rule_text, yes_line, no_line, list_lines}
use Rattle.output_lines.proofs.Lines.Laws.{rule-length}
use Rattle.closing_lines.specs.Closing.{end_line, refusal_line}
use Rattle.closing_lines.proofs.Closing.Laws.{refusal-length}
use Rattle.transcript.specs.Output.{Beat, more, last, beat, beats, output_most}
use Rattle.transcript.specs.Core.{counted, no_place_refusal, core_no, core_yes, core_reply, core_beat}
use Rattle.transcript.specs.Core.Along.{Along, few-attributes}
use Rattle.transcript.proofs.Core.Beats.{reply-cases, core-beat}
use Rattle.transcript.proofs.Core.Kept.{core-along}

-- ---- the lines

module _ (n : ℕ) (few : n ≤ most_attributes) where
  yes-length : (q : Implication ℕ) → length (yes_line n q) ≤ 160
  yes-length q = rw (length-append (rule_text n q), rule-length n q) (omega arith)

  no_length : (q : Implication ℕ) (row : ℕ) → length (no_line n q row) ≤ 160
  no_length q row =
      rw (length-append (rule_text n q), rule-length n q, length-append (number_text row)) (omega (arith, number_short row))

  list_length : (rs : List (Implication ℕ)) → length (list_lines n rs) ≤ length rs * 140
  unfolding list_lines
  list_length [] = omega arith
  list_length (r ∷ rs) =
      rw (length-append (rule_text n r), rule-length n r) (omega (arith, list_length rs))

end-length : (rules rows changes : ℕ) → length (end_line rules rows changes) ≤ 80
end-length rules rows changes =
    rw (length-append (number_text rules), length-append (number_text rows), length-append (number_text changes))
    (omega (arith, number_short rules, number_short rows, number_short changes))

-- ---- a beat

-- the places that are free
abbrev free : State → ℕ
free s = (s.lent.rows / 2 - length s.rows) + (s.lent.list / 2 - length s.list)

-- a beat that goes on takes up a place for the line it writes; the last writes the list and the totals, or one line and its refusal
abbrev Paid : State → Beat → Type 0
Paid s (more line s' c) = length line + free s' * 160 ≤ free s * 160
Paid s (last line) = length line ≤ 36000

-- a lent length that is not refused
few_words : (most words : ℕ) → bad_length most words ≡ false → words / 2 ≤ most
unfolding bad_length
few_words most words e =
    let h : words ≤ most * 2 = ltb-false _ _ (or-false (not (eqb (words % 2) 0)) (ltb (most * 2) words) e).1 in
    omega arith

module _ (table : List Object) (s : State) (changes : ℕ) (h : Along table s changes) where
  few-places : (s.lent.rows / 2 ≤ most_objects) × (s.lent.list / 2 ≤ most_implications)
  few-places =
      let x = or-false (bad_length most_objects s.lent.rows) _ h.lengths in
      let y = or-false (bad_length most_implications s.lent.list) _ x.1 in
      (few_words most_objects s.lent.rows x.0, few_words most_implications s.lent.list y.0)

  no-paid : (q : Implication ℕ) (number : ℕ) (o : Object) → Paid s (core_no s changes q number o)
  unfolding core_no
  no-paid q number o = go (leb (s.lent.rows / 2) (length s.rows)) refl
    where
      go : (b : Bool) → leb (s.lent.rows / 2) (length s.rows) ≡ b
          → Paid s (elim b [
            | true ↦ last (no_line s.n q number ++ refusal_line no_place_refusal)
            | false ↦ more (no_line s.n q number) (after_filing s o) changes
          ])
      go true e =
          rw (length-append (no_line s.n q number))
          (omega (arith, no_length s.n (few-attributes table s changes h) q number, refusal-length no_place_refusal))
      go false e =
          let l : length s.rows < s.lent.rows / 2 = leb-false _ _ e in
          omega (arith, no_length s.n (few-attributes table s changes h) q number, length-append s.rows (o ∷ []))

  yes-paid : (q : Implication ℕ) → Paid s (core_yes s changes q)
  unfolding core_yes
  yes-paid q = go (leb (s.lent.list / 2) (length s.list)) refl
    where
      go : (b : Bool) → leb (s.lent.list / 2) (length s.list) ≡ b
          → Paid s (elim b [
            | true ↦ last (yes_line s.n q ++ refusal_line no_place_refusal)
            | false ↦ more (yes_line s.n q) (agreeing s q) (counted changes)
          ])
      go true e =
          rw (length-append (yes_line s.n q))
          (omega (arith, yes-length s.n (few-attributes table s changes h) q, refusal-length no_place_refusal))
      go false e =
          let l : length s.list < s.lent.list / 2 = leb-false _ _ e in
          omega (arith, yes-length s.n (few-attributes table s changes h) q, length-append s.list (q ∷ []))

  reply-paid : (q : Implication ℕ) → Paid s (core_reply table s changes q)
  reply-paid q = reply-cases table s changes q (Paid s) (λ number o r. no-paid q number o) (λ agrees. yes-paid q)

  beat-paid : Paid s (core_beat table s changes)
  unfolding core_beat
  beat-paid = go (eqb s.current (full s.n)) (eqb (written_reach s) s.current)
    where
      go : (b d : Bool)
          → Paid s (elim b [
            | true ↦ last (list_lines s.n s.list ++ end_line (length s.list) (length s.rows) changes)
            | false ↦ elim d [
              | true ↦ more [] (after_move s) (counted changes)
              | false ↦ core_reply table s changes (written_question s)
            ]
          ])
      go true d =
          rw (length-append (list_lines s.n s.list))
          (omega (
            arith,
            list_length s.n (few-attributes table s changes h) s.list,
            end-length (length s.list) (length s.rows) changes,
            few-places,
            h.list_places,
          ))
      go false true = omega arith
      go false false = reply-paid (written_question s)

-- ---- the output

beats-paid : (k : ℕ) (table : List Object) (s : State) (changes : ℕ) → Along table s changes
    → length (beats k table s changes) ≤ free s * 160 + 36000
unfolding beats
beats-paid zero table s changes h = omega arith
beats-paid (suc k) table s changes h =
    let e = core-beat table s changes h in
    go (beat table s changes) (sym e) (subst (Paid s) (sym e) (beat-paid table s changes h)) (beats-paid k table)
  where
    go : (b : Beat) → core_beat table s changes ≡ b → Paid s b
        → ((s' : State) (c' : ℕ) → Along table s' c' → length (beats k table s' c') ≤ free s' * 160 + 36000)
        → length {A = ℕ} (elim b [ more line s' c' ↦ line ++ beats k table s' c' | last line ↦ line ]) ≤ free s * 160 + 36000
    go (more line s' c') e p ih =
        rw (length-append line) (omega (arith, p, ih s' c' (core-along table s changes h line s' c' e)))
    go (last line) e p ih = omega (arith, p)

pub size : (k : ℕ) (table : List Object) (s : State) (changes : ℕ) → Along table s changes → length (beats k table s changes) ≤ output_most
size k table s changes h = omega (arith, beats-paid k table s changes h, few-places table s changes h)
