-- Every interview of a complete table ends (`conclusion`): either in END, with a list that is decided and shortest for the
-- table, or in `E 12 0`, the refusal of a reply for which there is no place. A no is refused only where the table has more rows
-- than there are places for them (`ends`).
use Rattle.std.proofs.Math.Path.{◌≡◌, refl, sym, ap}
use Rattle.std.proofs.Common.{◌∙◌, subst, append_assoc, arith}
use Rattle.std.specs.Prelude.{◌⊎◌, ◌↔◌, Bool, List, [], ◌++◌, ℕ, zero, suc, ◌+◌, ◌/◌, ◌≤◌, ◌<◌, length}
use Rattle.std.proofs.Math.Logic.{inl, inr}
use Rattle.std.proofs.Math.Bool.{true, false}
use Rattle.std.proofs.Math.Dec.{leb}
use borrow.Author.Tests.{leb-true}
use Rattle.theory.specs.Lists.{All}
use Rattle.theory.specs.Implications.{Implication}
use Rattle.attribute_set.specs.Sets.{full}
use Rattle.implication.specs.Closure.{follows}
use Rattle.context.specs.Objects.{Object}
use Rattle.context.specs.Tables.{Table}
use Rattle.context.proofs.Tables.Laws.{follows-tables}
use Rattle.machine.specs.Checks.{Lent, State, force, question}
use Rattle.machine.specs.Machine.{step, finished, performed, checks_of, opening, opened, after_filing, after_yes}
use Rattle.machine.proofs.Machine.Laws.{perform-accepted, step-cases, opened-is}
use Rattle.demands.specs.Demand3.{OverM, Finished}
use Rattle.demands.proofs.Demand3.Theorem.{decided, shortest}
use Rattle.output_lines.specs.Lines.{yes_line, no_line, list_lines}
use Rattle.closing_lines.specs.Closing.{end_line, refusal_line}
use Rattle.transcript.specs.Output.{Beat, more, last, beat, beats, enough}
use Rattle.transcript.proofs.Output.Ends.{measure, measure-enough, beat-falls}
use Rattle.transcript.specs.Core.{counted, no_place_refusal, core_no, core_yes, core_reply, core_beat}
use Rattle.transcript.specs.Ending.{Decides, Concluded, Full}
use Rattle.transcript.specs.Core.Along.{Along, agrees-force, same-refutes, session-passes}
use Rattle.transcript.proofs.Core.Beats.{Refuting, reply-cases, rows-fewer, core-last, core-moved, core-asked, core-beat}
use Rattle.transcript.proofs.Core.Kept.{core-kept, opened-along}

-- the same, and the reply is a yes, or the table has more rows than there are places lent for them
pub record RefusedReply (n : ℕ) (table : List Object) (lent : Lent) (text : List ℕ) : Type 0 where
  pub refused : Full n text
  pub short : (refused.reply ≡ yes_line n refused.question) ⊎ (lent.rows / 2 < length table)

-- how the output ends
abbrev pub Ends : ℕ → List Object → Lent → List ℕ → Type 0
Ends n table lent text = Concluded n table text ⊎ RefusedReply n table lent text

-- ---- at M

module _ (table : List Object) (s : State) (changes : ℕ) (a : Along table s changes) where
  -- the background is empty: what is in force is the list
  in_list : force s ≡ s.list
  in_list = ap (λ b. b ++ s.list) a.background

  module _ (end : s.current ≡ full s.n) where
    is-finished : Finished s
    unfolding performed checks_of
    is-finished =
        ap (λ t. t.answer) (perform-accepted s step (session-passes table s changes a))
        ∙ step-cases s (λ t. t.answer ≡ finished) (λ e. refl) (λ ne e. absurd (ne end)) (λ ne d. absurd (ne end))

    list-decides : Decides s.n table s.list
    list-decides r i = (
      λ e. (follows-tables s.n (force s) a.reached.over r i).0 (rw in_list e) table a.complete (agrees-force table s changes a),
      λ h. subst (λ l. follows l r ≡ true) in_list
          ((decided s a.reached is-finished r i).1 (λ o m. same-refutes table s changes a o (a.rows o m) r ∙ h o (a.rows o m))),
    )

    list-shortest : (l : List (Implication ℕ)) → All (OverM s.n) l → Decides s.n table l → length s.list ≤ length l
    list-shortest l over decides = shortest s a.reached l over (subst
        (λ b. (r : Implication ℕ) → OverM s.n r → (follows (b ++ s.list) r ≡ true) ↔ (follows (b ++ l) r ≡ true)) (sym a.background)
        (λ r i. (λ e. (decides r i).1 ((list-decides r i).0 e), λ e. (list-decides r i).1 ((decides r i).0 e))))

    concluded : Concluded s.n table (list_lines s.n s.list ++ end_line (length s.list) (length s.rows) changes)
    concluded = record {
      before = [];
      list = s.list;
      rows = s.rows;
      changes = changes;
      whole = refl;
      filed = a.rows;
      over = subst (λ l. All (OverM s.n) l) in_list a.reached.over;
      decides = list-decides;
      shortest = list-shortest;
    }

-- ---- the last beat

-- what stands before it is part of the output
behind : (n : ℕ) (table : List Object) (lent : Lent) (line text : List ℕ) → Ends n table lent text → Ends n table lent (line ++ text)
behind n table lent line text (inl c) = inl (record {
  before = line ++ c.before;
  list = c.list;
  rows = c.rows;
  changes = c.changes;
  whole = ap (λ t. line ++ t) c.whole ∙ sym (append_assoc line c.before _);
  filed = c.filed;
  over = c.over;
  decides = c.decides;
  shortest = c.shortest;
})
behind n table lent line text (inr r) =
    let f = r.refused in
    inr (record {
      refused = record {
        before = line ++ f.before;
        question = f.question;
        reply = f.reply;
        replies = f.replies;
        whole = ap (λ t. line ++ t) f.whole ∙ sym (append_assoc line f.before _);
      };
      short = r.short;
    })

not_last : (line line' : List ℕ) (s' : State) (c' : ℕ) → more line s' c' ≡ last line' → ⊥
not_last line line' s' c' e = let z : ◌≡◌ {A = ℕ} 0 1 = cc in omega arith

same_line : (line line' : List ℕ) → last line ≡ last line' → line ≡ line'
same_line line line' e = cc

module _ (table : List Object) (s : State) (changes : ℕ) (a : Along table s changes) (line : List ℕ) where
  -- a reply that ends the interview is refused for want of a place; the row of a no is one more than those filed
  no-refused : (number : ℕ) (o : Object) → Refuting table (question s) o → core_no s changes (question s) number o ≡ last line
      → RefusedReply s.n table s.lent line
  unfolding core_no
  no-refused number o r = go (leb (s.lent.rows / 2) (length s.rows)) refl
    where
      go : (b : Bool) → leb (s.lent.rows / 2) (length s.rows) ≡ b
          → ◌≡◌ {A = Beat} (elim b [
            | true ↦ last (no_line s.n (question s) number ++ refusal_line no_place_refusal)
            | false ↦ more (no_line s.n (question s) number) (after_filing s o) changes
          ]) (last line) → RefusedReply s.n table s.lent line
      go true f e = record {
        refused = record {
          before = [];
          question = question s;
          reply = no_line s.n (question s) number;
          replies = inr (number, refl);
          whole = sym (same_line _ _ e);
        };
        short = inr (omega (arith, leb-true (s.lent.rows / 2) (length s.rows) f, rows-fewer table s o r changes a));
      }
      go false f e = absurd (not_last _ _ _ _ e)

  yes-refused : core_yes s changes (question s) ≡ last line → RefusedReply s.n table s.lent line
  unfolding core_yes
  yes-refused = go (leb (s.lent.list / 2) (length s.list))
    where
      go : (b : Bool)
          → ◌≡◌ {A = Beat} (elim b [
            | true ↦ last (yes_line s.n (question s) ++ refusal_line no_place_refusal)
            | false ↦ more (yes_line s.n (question s)) (after_yes s) (counted changes)
          ]) (last line) → RefusedReply s.n table s.lent line
      go true e = record {
        refused = record { before = []; question = question s; reply = yes_line s.n (question s); replies = inl refl; whole = sym (same_line _ _ e) };
        short = inl refl;
      }
      go false e = absurd (not_last _ _ _ _ e)

  reply-refused : core_reply table s changes (question s) ≡ last line → RefusedReply s.n table s.lent line
  reply-refused =
      reply-cases table s changes (question s) (λ b. b ≡ last line → RefusedReply s.n table s.lent line) no-refused (λ agrees. yes-refused)

  last-ends : core_beat table s changes ≡ last line → Ends s.n table s.lent line
  last-ends k =
      step-cases s (λ t. Ends s.n table s.lent line)
      (λ e. subst (λ t. Ends s.n table s.lent t) (same_line _ _ (sym (core-last table s changes e) ∙ k)) (inl (concluded table s changes a e)))
      (λ ne e. absurd (not_last _ _ _ _ (sym (core-moved table s changes a ne e) ∙ k)))
      (λ ne d. inr (reply-refused (sym (core-asked table s changes a ne d) ∙ k)))

-- ---- all beats

-- with more beats than there is to go, the last is among them
ends-within : (k : ℕ) (table : List Object) (s : State) (changes : ℕ) → Along table s changes → measure s < k
    → Ends s.n table s.lent (beats k table s changes)
unfolding beats
ends-within zero table s changes a l = absurd (omega arith)
ends-within (suc k) table s changes a l = go (beat table s changes) refl (λ s' c' b m. ends-within k table s' c' b m)
  where
    go : (b : Beat) → beat table s changes ≡ b
        → ((s' : State) (c' : ℕ) → Along table s' c' → measure s' < k → Ends s'.n table s'.lent (beats k table s' c'))
        → Ends s.n table s.lent (elim b [ more line s' c' ↦ line ++ beats k table s' c' | last line ↦ line ])
    go (more line s' c') e ih =
        let kept = core-kept table s changes a line s' c' (sym (core-beat table s changes a) ∙ e) in
        let less = (beat-falls table s changes a.reached line s' c' e).less in
        behind s.n table s.lent line _
        (subst (λ n. Ends n table s.lent (beats k table s' c')) kept.same_n
        (subst (λ t. Ends s'.n table t (beats k table s' c')) kept.same_lent (ih s' c' kept.along (omega (arith, less)))))
    go (last line) e ih = last-ends table s changes a line (sym (core-beat table s changes a) ∙ e)

pub ends : (table : List Object) (n : ℕ) (lent : Lent) (s : State) → Table n table → opening n lent [] [] ≡ opened s
    → Ends n table lent (beats (enough s) table s 0)
ends table n lent s complete e =
    subst (λ (x : State). Ends x.n table x.lent (beats (enough s) table s 0)) (opened-is n lent [] [] s e).0
    (ends-within (enough s) table s 0 (opened-along table n lent s complete e) (measure-enough s))

pub conclusion : (table : List Object) (n : ℕ) (lent : Lent) (s : State) → Table n table → opening n lent [] [] ≡ opened s
    → Concluded n table (beats (enough s) table s 0) ⊎ Full n (beats (enough s) table s 0)
conclusion table n lent s complete e = go (ends table n lent s complete e)
  where
    go : Ends n table lent (beats (enough s) table s 0) → Concluded n table (beats (enough s) table s 0) ⊎ Full n (beats (enough s) table s 0)
    go (inl c) = inl c
    go (inr r) = inr r.refused
