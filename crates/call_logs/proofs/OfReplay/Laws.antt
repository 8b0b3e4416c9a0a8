-- What one call of a log leaves: its answer's code, the machine's state after it, and past the words in use every word as it
-- was. A reply or a filing that is taken sets exactly the two words of the next place, a filling those of a row in use, and every other call
-- leaves the words alone.
use Rattle.std.specs.Prelude.{◌≡◌, Bool, true, false, not, List, [], ◌∷◌, ℕ, ◌+◌, ◌*◌, ◌<◌, length, set, drop}
use Rattle.std.proofs.Math.Path.{refl}
use Rattle.std.proofs.Common.{sym, ap, ◌∙◌, subst, true≢false, arith, length-set, drop-set-lt}
use Rattle.std.proofs.Math.Option.{Option, none, some}
use Rattle.std.proofs.Math.ListN.{length-append}
use Rattle.implication.proofs.Pairs.Laws.{length_pairs}
use Rattle.implication.specs.Closure.{implication}
use Rattle.context.specs.Objects.{Object, object}
use Rattle.context.proofs.Filling.Laws.{length-filled}
use Rattle.session.specs.declared.Refusal.{Refusal}
use Rattle.machine.specs.Checks.{State, first_failing, question}
use Rattle.machine.specs.Machine.{Call, step, accept, reject, follow, refute, test, file, fill, taken, refused, Turn, turn, after_filing, after_fill, performed, checks_of, perform}
use Rattle.machine.proofs.Machine.Laws.{perform-cases, fill-used, step-cases}
use Rattle.machine.specs.Calls.{state_of, rows_by, list_by}
use Rattle.machine.proofs.Calls.Laws.{rows_kept, list_kept}
use Rattle.session.specs.declared.Session.{Session}
use Rattle.session.specs.Choice.{chosen}
use Rattle.session.specs.Records.{same_session}
use Rattle.session.proofs.Records.Laws.{same-equal}
use Rattle.answer_words.specs.declared.Answer.{Answer as Coded}
use Rattle.logged_calls.specs.Kinds.{ReplaysFrom}
use Rattle.call_logs.specs.Replay.{replay_code, replay_after, PastKept, LogWords, Replayed, code_of_log, left_by, ReplaySays}

-- ---- one call

-- the words as they were, and as many in use
still-past : (k k' : ℕ) (ws ws' : List ℕ) → k' ≡ k → ws' ≡ ws → PastKept k k' ws ws'
still-past k k' ws ws' e w = record { more = omega arith; same = ap length w; past = ap (drop (k' * 2)) w }

-- the two words of the next place set, and one place more in use
put-past : (k k' j a b : ℕ) (ws ws' : List ℕ) → k ≡ j → k' ≡ j + 1 → ws' ≡ set (set ws (j * 2) a) (j * 2 + 1) b → PastKept k k' ws ws'
put-past k k' j a b ws ws' e f w = record {
  more = omega arith;
  same = ap length w ∙ length-set (set ws (j * 2) a) (j * 2 + 1) b ∙ length-set ws (j * 2) a;
  past = ap (drop (k' * 2)) w ∙ drop-set-lt (k' * 2) (set ws (j * 2) a) (j * 2 + 1) b (omega arith) ∙ drop-set-lt (k' * 2) ws (j * 2) a (omega arith);
}

-- the two words of a place in use set, and as many in use
set_past : (k k' j a b : ℕ) (ws ws' : List ℕ) → j < k → k' ≡ k → ws' ≡ set (set ws (j * 2) a) (j * 2 + 1) b → PastKept k k' ws ws'
set_past k k' j a b ws ws' u f w = record {
  more = omega arith;
  same = ap length w ∙ length-set (set ws (j * 2) a) (j * 2 + 1) b ∙ length-set ws (j * 2) a;
  past = ap (drop (k' * 2)) w ∙ drop-set-lt (k' * 2) (set ws (j * 2) a) (j * 2 + 1) b (omega arith) ∙ drop-set-lt (k' * 2) ws (j * 2) a (omega arith);
}

module _ (s s' : Session) (background rows list rows' list' : List ℕ) where
  abbrev before : State
  before = state_of s rows list background

  -- what a turn of this call leaves past the words in use
  abbrev Leaves : Call → Turn → Type 0
  Leaves c t = state_of s' rows' list' background ≡ t.after → rows' ≡ rows_by c t.answer before rows → list' ≡ list_by c t.answer before list
      → PastKept s.rows s'.rows rows rows' × PastKept s.rules s'.rules list list'

  -- the counts, where the state's rows or list are as they were, or one longer
  module _ (x : State) (is : state_of s' rows' list' background ≡ x) where
    rows-counted : s'.rows ≡ length x.rows
    rows-counted = sym (length_pairs object s'.rows rows') ∙ ap (λ (t : State). length t.rows) is

    list_counted : s'.rules ≡ length x.list
    list_counted = sym (length_pairs implication s'.rules list') ∙ ap (λ (t : State). length t.list) is

    rows-still : x.rows ≡ before.rows → rows' ≡ rows → PastKept s.rows s'.rows rows rows'
    rows-still e = still-past _ _ rows rows' (rows-counted ∙ ap length e ∙ length_pairs object s.rows rows)

    list-still : x.list ≡ before.list → list' ≡ list → PastKept s.rules s'.rules list list'
    list-still e = still-past _ _ list list' (list_counted ∙ ap length e ∙ length_pairs implication s.rules list)

  same-leaves : (x : State) → x.rows ≡ before.rows → x.list ≡ before.list → state_of s' rows' list' background ≡ x → rows' ≡ rows → list' ≡ list
      → PastKept s.rows s'.rows rows rows' × PastKept s.rules s'.rules list list'
  same-leaves x r l is p q = (rows-still x is r p, list-still x is l q)

  -- a filing, and so a no
  filed-leaves : (o : Object) → Leaves (file o) (turn taken (after_filing before o))
  filed-leaves o is p q = (
    put-past _ _ (length before.rows) _ _ rows rows' (sym (length_pairs object s.rows rows))
        (rows-counted _ is ∙ length-append before.rows (o ∷ [])) p,
    list-still _ is refl q,
  )

  -- a filling of row j, in use
  filled-leaves : (j : ℕ) (m : Object) → j < length before.rows → Leaves (fill j m) (turn taken (after_fill before j m))
  filled-leaves j m used is p q =
      let count = length_pairs object s.rows rows in
      (set_past _ _ j _ _ rows rows' (subst (λ i. j < i) count used) (rows-counted _ is ∙ length-filled m j before.rows ∙ count) p, list-still _ is refl q)

  performed-leaves : (c : Call) → first_failing (checks_of before c) ≡ none → Leaves c (performed before c)
  unfolding performed
  performed-leaves step e = step-cases before (Leaves step) (λ d. same-leaves _ refl refl) (λ a b. same-leaves _ refl refl) (λ a b. same-leaves _ refl refl)
  performed-leaves accept e = λ is p q. (
    rows-still _ is refl p,
    put-past _ _ (length before.list) _ _ list list' (sym (length_pairs implication s.rules list))
        (list_counted _ is ∙ length-append before.list (question before ∷ [])) q,
  )
  performed-leaves (reject o) e = filed-leaves o
  performed-leaves (follow r) e = same-leaves _ refl refl
  performed-leaves (refute r) e = same-leaves _ refl refl
  performed-leaves (test o) e = same-leaves _ refl refl
  performed-leaves (file o) e = filed-leaves o
  performed-leaves (fill j m) e = filled-leaves j m (fill-used before j m e)

  refused-leaves : (c : Call) (r : Refusal) → Leaves c (turn (refused r) before)
  refused-leaves c r is p q = same-leaves _ refl refl is (p ∙ rows_kept c r before rows) (q ∙ list_kept c r before list)

  perform-leaves : (c : Call) → Leaves c (perform before c)
  perform-leaves c = perform-cases before c (Leaves c) (performed-leaves c) (λ r e. refused-leaves c r)

  -- one call of a log: its code, the state after it, and the words past those in use
  pub replayed : (o : Option Call) (x : Coded) → ReplaysFrom o s rows list background x s' rows' list'
      → (x ≡ replay_code before o) × ((state_of s' rows' list' background ≡ replay_after before o)
      × (PastKept s.rows s'.rows rows rows' × PastKept s.rules s'.rules list list'))
  replayed none x (e, (f, (p, q))) = (
    e,
    (
      λ i. state_of (f i) (p i) (q i) background,
      (
        still-past _ _ rows rows' (ap (λ (y : Session). y.rows) f) p,
        still-past _ _ list list' (ap (λ (y : Session). y.rules) f) q,
      ),
    ),
  )
  replayed (some c) x m = (m.answer, (m.state, perform-leaves c m.state m.rows_written m.list_written))

-- ---- the record after a replay

-- a record that is stored only where it changed
pub replays-kept : (s after : Session) (changed : Bool) → changed ≡ not (same_session s after) → chosen changed after s ≡ after
replays-kept s after changed e = go changed (same_session s after) refl e
  where
    go : (b same : Bool) → same_session s after ≡ same → b ≡ not same → chosen b after s ≡ after
    go true same f h = refl
    go false true f h = same-equal s after f
    go false false f h = absurd (true≢false (sym h))

-- so that what a replay says of the record after it holds of the one that is stored
pub replayed-kept : (background calls : List ℕ) (s : Session) (before : LogWords) (after : Session) (words : LogWords) (x : Coded) (changed : Bool)
    → ((log : Replayed) × (x ≡ code_of_log log) × (after ≡ left_by log s) × ReplaySays background calls s before words log)
    × (changed ≡ not (same_session s after))
    → (log : Replayed) × (x ≡ code_of_log log) × (chosen changed after s ≡ left_by log s) × ReplaySays background calls s before words log
replayed-kept background calls s before after words x changed h =
    subst (λ z. (log : Replayed) × (x ≡ code_of_log log) × (z ≡ left_by log s) × ReplaySays background calls s before words log)
    (sym (replays-kept s after changed h.1)) h.0
