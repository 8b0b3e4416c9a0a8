-- What holds at the head of each beat: the buffer, with what the interview still writes behind it, is the whole text.
use Rattle.std.specs.Prelude.{◌≡◌, refl, Some, None, List, ◌++◌, length, eqb}
use Rattle.std.proofs.Common.{sym, ap, ◌∙◌, arith, ltb-false}
use Prim.Native.Nat.{ℕ, suc, ◌+◌, ◌*◌, ◌/◌, ◌^◌, ◌≤◌, ◌<◌}
use Rattle.implication.proofs.Pairs.Laws.{length_pairs}
use Rattle.implication.specs.Closure.{implication}
use Rattle.context.specs.Objects.{Object, object, objects_of}
use Rattle.session.specs.Limits.{most_attributes}
use Rattle.machine.specs.Checks.{State}
use Rattle.machine.proofs.Checks.Laws.{or-false}
use Rattle.text.specs.Page.{Page, page, text}
use Rattle.text.proofs.Page.Laws.{text-append, text-inside, text-length}
use Rattle.transcript.specs.Output.{Beat, more, last, beats, enough}
use Rattle.transcript.proofs.Output.Ends.{measure, measure-enough, beat-falls, beats-same}
use Rattle.transcript.specs.Core.{core_beat}
use Rattle.transcript.specs.Core.Along.{Along}
use Rattle.transcript.proofs.Core.Beats.{core-beat}
use Rattle.transcript.proofs.Core.Kept.{core-along}
use Rattle.interview_replies.specs.declared.Interview.{Interview}
use Rattle.interview_replies.specs.declared.Beaten.{Beaten}
use Rattle.interview_replies.specs.Holding.{holding, line_written, going, Leaves}
use Rattle.table_replies.specs.Reply.{Fits}

-- all that the interview still writes
abbrev pub remaining : List Object → State → ℕ → List ℕ
remaining table s changes = beats (enough s) table s changes

-- ---- what remains, after one beat

module _ (table : List Object) (s : State) (changes : ℕ) (h : Along table s changes) where
  pub remaining-last : (line : List ℕ) → core_beat table s changes ≡ last line → remaining table s changes ≡ line
  unfolding beats
  remaining-last line e = rw (beats, core-beat table s changes h ∙ e)

  module _ (line : List ℕ) (s' : State) (changes' : ℕ) (e : core_beat table s changes ≡ more line s' changes') where
    pub falls : measure s' < measure s
    falls = (beat-falls table s changes h.reached line s' changes' (core-beat table s changes h ∙ e)).less

    pub remaining-more : remaining table s changes ≡ line ++ remaining table s' changes'
    unfolding beats
    remaining-more =
        let k = measure-enough s in
        let along = core-along table s changes h line s' changes' e in
        rw (beats, core-beat table s changes h ∙ e)
        (ap (λ l. line ++ l) (beats-same (2 ^ s.n * suc (s.lent.rows / 2) + s.lent.rows / 2) (enough s') table s' changes' along.reached (omega (arith, k, falls)) (measure-enough s')))

-- ---- the loop

pub record Running (table : List Object) (whole start : List ℕ) (i : Interview) (rows list out : List ℕ) (at : ℕ) : Type 0 where
  pub along : Along table (holding i rows list) i.changes
  pub told : text (page start 0) whole ≡ text (page out at) (remaining table (holding i rows list) i.changes)
  pub within : at ≤ length out

module _ (objects : ℕ) (table : List ℕ) (i : Interview) (rows list : List ℕ) (h : Along (objects_of objects table) (holding i rows list) i.changes) where
  pub along-fits : objects * 2 ≤ length table → Fits i objects table rows list
  along-fits w = record {
    attributes = ltb-false most_attributes i.n (or-false (eqb i.n 0) _ h.attributes).1;
    in_table = w;
    in_rows = omega (arith, h.row_places, length_pairs object i.rows rows);
    in_list = omega (arith, h.list_places, length_pairs implication i.rules list);
  }

  pub running-start : (out : List ℕ)
      → Running (objects_of objects table) (remaining (objects_of objects table) (holding i rows list) i.changes) out i rows list out 0
  running-start out = record { along = h; told = refl; within = omega arith }

-- what a beat of the loop comes to: its line lies in the buffer; the last one has told all, and any other comes nearer to the end
pub record Turned (table : List Object) (whole start : List ℕ) (i : Interview) (rows list out : List ℕ) (at : ℕ)
    (r : Beaten) (rows' list' out' : List ℕ) : Type 0 where
  pub within : (at ≤ r.at) × (r.at ≤ length out')
  pub all : r.next ≡ None → page out' r.at ≡ text (page start 0) whole
  pub less : (j : Interview) → r.next ≡ Some j → measure (holding j rows' list') < measure (holding i rows list)
  pub on : (j : Interview) → r.next ≡ Some j → Running table whole start j rows' list' out' r.at

module _ (table : List Object) (whole start : List ℕ) (i : Interview) (rows list out : List ℕ) (at : ℕ)
    (h : Running table whole start i rows list out at) (r : Beaten) (rows' list' out' : List ℕ)
    (b : Leaves (core_beat table (holding i rows list) i.changes) r rows' list' (page out at) (page out' r.at)) where
  abbrev core : Beat
  core = core_beat table (holding i rows list) i.changes

  written-within : (at ≤ r.at) × (r.at ≤ length out')
  written-within =
      let p = page out at in
      let w = text-inside p (line_written core) h.within in
      let e : r.at ≡ (text p (line_written core)).at = ap (λ (q : Page). q.at) b.line in
      let l : length out' ≡ length out = ap (λ (q : Page). length q.bytes) b.line ∙ text-length p (line_written core) in
      (omega (arith, w.0, e), omega (arith, w.1, e, l))

  is_last : r.next ≡ None → core ≡ last (line_written core)
  is_last e = sym b.state ∙ ap (λ x. going x (line_written core) rows' list') e

  is-more : (j : Interview) → r.next ≡ Some j → core ≡ more (line_written core) (holding j rows' list') j.changes
  is-more j e = sym b.state ∙ ap (λ x. going x (line_written core) rows' list') e

  running-last : r.next ≡ None → page out' r.at ≡ text (page start 0) whole
  running-last e =
      b.line
      ∙ sym (ap (λ l. text (page out at) l) (remaining-last table (holding i rows list) i.changes h.along (line_written core) (is_last e))) ∙ sym h.told

  running-less : (j : Interview) → r.next ≡ Some j → measure (holding j rows' list') < measure (holding i rows list)
  running-less j e = falls table (holding i rows list) i.changes h.along (line_written core) _ j.changes (is-more j e)

  running-on : (j : Interview) → r.next ≡ Some j → Running table whole start j rows' list' out' r.at
  running-on j e = record {
    along = core-along table (holding i rows list) i.changes h.along (line_written core) _ _ (is-more j e);
    told = h.told
        ∙ ap (λ l. text (page out at) l) (remaining-more table (holding i rows list) i.changes h.along (line_written core) _ _ (is-more j e))
        ∙ text-append (page out at) (line_written core) _
        ∙ ap (λ p. text p (remaining table (holding j rows' list') j.changes)) (sym b.line);
    within = written-within.1;
  }

  pub turned : Turned table whole start i rows list out at r rows' list' out'
  turned = record { within = written-within; all = running-last; less = running-less; on = running-on }
