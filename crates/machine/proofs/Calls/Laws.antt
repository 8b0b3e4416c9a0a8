-- What a call promises, from what the plain machine does: from the whole turn and the words (`performs`, `turns`), and said in other
-- terms (`said`, `said-turn`). A call whose answer says no change leaves state and words as they were (`unchanged`, `rows-unchanged`,
-- `list-unchanged`), so that the record it was given serves as the record after it (`kept-made`, `chosen-made`). A
-- refusal leaves the words (`rows_kept`, `list_kept`).
use Rattle.std.specs.Prelude.{◌≡◌, refl, Bool, true, false, List, ℕ, length}
use Rattle.std.proofs.Common.{sym, ap, ◌∙◌, true≢false}
use Rattle.session.specs.declared.Session.{Session}
use Rattle.session.specs.declared.Refusal.{Refusal}
use Rattle.session.specs.Choice.{chosen}
use Rattle.context.specs.Filling.{joined, object_at}
use Rattle.machine.specs.Checks.{State, question}
use Rattle.machine.specs.Machine.{Call, step, accept, reject, follow, refute, test, file, fill, Answer, finished, moved, asked, taken, followed, refuted, unrefuted, refuting, refused, Turn, turn, performed, perform}
use Rattle.machine.proofs.Machine.Laws.{perform-cases, step-cases}
use Rattle.machine.specs.Calls.{state_of, put_pair, rows_by, list_by, rows_after, list_after, changes, MadeFrom, TurnedFrom}

module _ {c : Call} {s after : Session} {rows list background rows' list' : List ℕ} where
  pub performs : {a : Answer} → perform (state_of s rows list background) c ≡ turn a (state_of after rows' list' background)
      → rows' ≡ rows_by c a (state_of s rows list background) rows → list' ≡ list_by c a (state_of s rows list background) list
      → MadeFrom (λ x. x) c s rows list background a after rows' list'
  performs e p q = record {
    answer = sym (ap (λ (t : Turn). t.answer) e);
    state = sym (ap (λ (t : Turn). t.after) e);
    rows_written = p ∙ sym (ap (λ (t : Turn). rows_by c t.answer (state_of s rows list background) rows) e);
    list_written = q ∙ sym (ap (λ (t : Turn). list_by c t.answer (state_of s rows list background) list) e);
  }

  pub said : {X : Type 0} (says : Answer → X) {x : X} {a : Answer} → x ≡ says a → MadeFrom (λ y. y) c s rows list background a after rows' list'
      → MadeFrom says c s rows list background x after rows' list'
  said says e m = record { answer = e ∙ ap says m.answer; state = m.state; rows_written = m.rows_written; list_written = m.list_written }

  pub turns : {a : Answer} {changed : Bool} → MadeFrom (λ x. x) c s rows list background a after rows' list' → changed ≡ changes a
      → TurnedFrom (λ x. x) c s rows list background a after rows' list' changed
  turns m e = record { made = m; change = e ∙ ap changes m.answer }

  pub said-turn : {X : Type 0} (says : Answer → X) {x : X} {a : Answer} {changed : Bool} → x ≡ says a
      → TurnedFrom (λ y. y) c s rows list background a after rows' list' changed → TurnedFrom says c s rows list background x after rows' list' changed
  said-turn says e m = record { made = said says e m.made; change = m.change }

-- a call that does what another does, and writes the same words, promises what the other promises
module _ {c d : Call} {s after : Session} {rows list background rows' list' : List ℕ} {a : Answer} {changed : Bool} where
  pub as_call : perform (state_of s rows list background) d ≡ perform (state_of s rows list background) c
      → ((x : Answer) → rows_by d x (state_of s rows list background) rows ≡ rows_by c x (state_of s rows list background) rows)
      → ((x : Answer) → list_by d x (state_of s rows list background) list ≡ list_by c x (state_of s rows list background) list)
      → TurnedFrom (λ x. x) c s rows list background a after rows' list' changed → TurnedFrom (λ x. x) d s rows list background a after rows' list' changed
  as_call e r l t =
      let g = state_of s rows list background in
      let m = t.made in
      record {
        made = record {
          answer = m.answer ∙ sym (ap (λ (x : Turn). x.answer) e);
          state = m.state ∙ sym (ap (λ (x : Turn). x.after) e);
          rows_written = m.rows_written ∙ sym (r (perform g c).answer) ∙ sym (ap (λ (x : Turn). rows_by d x.answer g rows) e);
          list_written = m.list_written ∙ sym (l (perform g c).answer) ∙ sym (ap (λ (x : Turn). list_by d x.answer g list) e);
        };
        change = t.change ∙ sym (ap (λ (x : Turn). changes x.answer) e);
      }

-- ---- no change

performed-unchanged : (s : State) (c : Call) → changes (performed s c).answer ≡ false → (performed s c).after ≡ s
unfolding performed
performed-unchanged s step = step-cases s (λ t. changes t.answer ≡ false → t.after ≡ s) (λ d h. refl) (λ n d h. absurd (true≢false h)) (λ n d h. refl)
performed-unchanged s accept = λ h. absurd (true≢false h)
performed-unchanged s (reject o) = λ h. absurd (true≢false h)
performed-unchanged s (follow r) = λ h. refl
performed-unchanged s (refute r) = λ h. refl
performed-unchanged s (test o) = λ h. refl
performed-unchanged s (file o) = λ h. absurd (true≢false h)
performed-unchanged s (fill k m) = λ h. absurd (true≢false h)

pub unchanged : (s : State) (c : Call) → changes (perform s c).answer ≡ false → (perform s c).after ≡ s
unchanged s c = perform-cases s c (λ t. changes t.answer ≡ false → t.after ≡ s) (λ e. performed-unchanged s c) (λ r e h. refl)

put-kept : (a : Answer) (k x y : ℕ) (ws : List ℕ) → changes a ≡ false → put_pair a k x y ws ≡ ws
put-kept finished k x y ws h = refl
put-kept moved k x y ws h = refl
put-kept (asked q) k x y ws h = refl
put-kept taken k x y ws h = absurd (true≢false h)
put-kept (followed b) k x y ws h = refl
put-kept (refuted p) k x y ws h = refl
put-kept unrefuted k x y ws h = refl
put-kept refuting k x y ws h = refl
put-kept (refused r) k x y ws h = refl

pub rows-unchanged : (s : State) (c : Call) (ws : List ℕ) → changes (perform s c).answer ≡ false → rows_after c s ws ≡ ws
rows-unchanged s step ws h = refl
rows-unchanged s accept ws h = refl
rows-unchanged s (reject o) ws h = put-kept (perform s (reject o)).answer (length s.rows) o.yes_marks o.no_marks ws h
rows-unchanged s (follow r) ws h = refl
rows-unchanged s (refute r) ws h = refl
rows-unchanged s (test o) ws h = refl
rows-unchanged s (file o) ws h = put-kept (perform s (file o)).answer (length s.rows) o.yes_marks o.no_marks ws h
rows-unchanged s (fill k m) ws h =
    put-kept (perform s (fill k m)).answer k (joined (object_at s.rows k) m).yes_marks (joined (object_at s.rows k) m).no_marks ws h

pub list-unchanged : (s : State) (c : Call) (ws : List ℕ) → changes (perform s c).answer ≡ false → list_after c s ws ≡ ws
list-unchanged s step ws h = refl
list-unchanged s accept ws h = put-kept (perform s accept).answer (length s.list) (question s).premise (question s).conclusion ws h
list-unchanged s (reject o) ws h = refl
list-unchanged s (follow r) ws h = refl
list-unchanged s (refute r) ws h = refl
list-unchanged s (test o) ws h = refl
list-unchanged s (file o) ws h = refl
list-unchanged s (fill k m) ws h = refl

module _ {X : Type 0} {says : Answer → X} {c : Call} {s after : Session} {rows list background rows' list' : List ℕ} {x : X} where
  pub kept-made : MadeFrom says c s rows list background x after rows' list' → changes (perform (state_of s rows list background) c).answer ≡ false
      → MadeFrom says c s rows list background x s rows' list'
  kept-made m h =
      let g = state_of s rows list background in
      let r = m.rows_written ∙ rows-unchanged g c rows h in
      let l = m.list_written ∙ list-unchanged g c list h in
      let held : state_of s rows' list' background ≡ g = λ i. state_of s (r i) (l i) background in
      record { answer = m.answer; state = held ∙ sym (unchanged g c h); rows_written = m.rows_written; list_written = m.list_written }

  -- so a record that is stored only where it changed is as good as one that is stored always
  pub chosen-made : {changed : Bool} → TurnedFrom says c s rows list background x after rows' list' changed
      → MadeFrom says c s rows list background x (chosen changed after s) rows' list'
  chosen-made {changed} t = go changed refl
    where
      go : (b : Bool) → changed ≡ b → MadeFrom says c s rows list background x (chosen b after s) rows' list'
      go true e = t.made
      go false e = kept-made t.made (sym t.change ∙ e)

-- a refusal leaves the words
pub rows_kept : (c : Call) (r : Refusal) (s : State) (ws : List ℕ) → rows_by c (refused r) s ws ≡ ws
rows_kept step r s ws = refl
rows_kept accept r s ws = refl
rows_kept (reject o) r s ws = refl
rows_kept (follow q) r s ws = refl
rows_kept (refute q) r s ws = refl
rows_kept (test o) r s ws = refl
rows_kept (file o) r s ws = refl
rows_kept (fill k m) r s ws = refl

pub list_kept : (c : Call) (r : Refusal) (s : State) (ws : List ℕ) → list_by c (refused r) s ws ≡ ws
list_kept step r s ws = refl
list_kept accept r s ws = refl
list_kept (reject o) r s ws = refl
list_kept (follow q) r s ws = refl
list_kept (refute q) r s ws = refl
list_kept (test o) r s ws = refl
list_kept (file o) r s ws = refl
list_kept (fill k m) r s ws = refl
