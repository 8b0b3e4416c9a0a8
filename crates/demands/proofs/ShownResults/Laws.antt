-- After any calls the rules in force are those before them and more (`run-force`), and a row in use is the row it was with marks added
-- (`run_row`), whatever the calls are and whatever state they begin in. So what follows goes on following (`run-follows`), and a row goes on
-- refuting (`run-refuted`). The two read-only calls never say both of one rule, in any state at all (`never_said_both`).
use Rattle.std.proofs.Math.Path.{◌≡◌, refl, ap}
use Rattle.std.proofs.Common.{sym, ◌∙◌, true≢false, append_assoc, arith, length-append, ltb-true, lt-ltb}
use Rattle.std.specs.Prelude.{◌⊎◌, Bool, List, [], ◌∷◌, ◌++◌, ℕ, ◌+◌, ◌≤◌, ◌<◌, length}
use Rattle.std.proofs.Math.Logic.{inl, inr, ⊎_elim}
use Rattle.std.proofs.Math.Bool.{true, false}
use Rattle.std.proofs.Math.Option.{none}
use Rattle.std.proofs.Math.ListN.{get_or-append}
use Rattle.std.proofs.Math.Dec.{ltb}
use Rattle.theory.specs.Implications.{Implication}
use Rattle.attribute_set.proofs.Sets.Laws.{lt-or-le, sub_trans}
use Rattle.implication.proofs.Closure.Laws.{follows-more}
use Rattle.context.proofs.Places.Laws.{lowest-at, lowest-least, none-lowest}
use Rattle.context.specs.Objects.{Object, object, refutes, first_refuting}
use Rattle.context.proofs.Objects.Laws.{has_more, lacks-more, refutes-grown, consistent-spares, apart-contradicts}
use Rattle.context.specs.Filling.{joined, object_at}
use Rattle.context.proofs.Filling.Laws.{has-joined, lacks-joined, object-member}
use Rattle.machine.specs.Checks.{State, force, first_failing}
use Rattle.machine.specs.Machine.{Call, follow, refute, Answer, followed, refuted, unrefuted, refuted_at, performed, checks_of, perform, run}
use Rattle.machine.proofs.Machine.Laws.{perform-cases, perform-accepted}
use Rattle.demands.specs.Replies.{Reply, agreed_in, offered_in, marks_for, replies}
use Rattle.demands.proofs.Replies.Laws.{run-same, run-rows, run-list, row-filled, length-filled-by}
use Rattle.demands.specs.Demand3.{Unrefuted}
use Rattle.demands.specs.Facts.{Fine}
use Rattle.demands.proofs.Facts.Laws.{checks-fine}
use Rattle.demands.specs.ShownResults.{Follows, RefutedBy, Refuted, Settled, first_row, SaysFollows, SaysRefuted}

-- ---- after any calls, from any state

-- calls after calls
pub run-append : (s : State) (calls more : List Call) → run s (calls ++ more) ≡ run (run s calls) more
unfolding run
run-append s [] more = refl
run-append s (c ∷ calls) more = run-append (perform s c).after calls more

module _ (s : State) (calls : List Call) where
  abbrev end : State
  end = run s calls

  -- the accepted replies, filings and fillings among the calls
  abbrev since : List Reply
  since = replies s calls

  -- the rules in force are those before, and those agreed to since
  pub run-force : force end ≡ force s ++ agreed_in since
  run-force =
      ap (λ b. b ++ end.list) (run-same s calls).background ∙ ap (λ l. s.background ++ l) (run-list s calls)
      ∙ sym (append_assoc s.background s.list (agreed_in since))

  -- no fewer rows are in use
  pub run-used : length s.rows ≤ length end.rows
  run-used =
      let count : length end.rows ≡ length s.rows + length (offered_in since) =
      ap length (run-rows s calls) ∙ length-filled-by since (s.rows ++ offered_in since) ∙ length-append s.rows (offered_in since) in
      omega (arith, count)

  -- a row is the row it was, with the marks of the fillings of its number
  pub run_row : (k : ℕ) → k < length s.rows → object_at end.rows k ≡ joined (object_at s.rows k) (marks_for k since)
  run_row k h =
      ap (λ l. object_at l k) (run-rows s calls)
      ∙ row-filled k since (s.rows ++ offered_in since) (omega (arith, length-append s.rows (offered_in since)))
      ∙ ap (λ o. joined o (marks_for k since)) (get_or-append s.rows (offered_in since) (object 0 0) k h)

  pub run-follows : (r : Implication ℕ) → Follows s r → Follows end r
  run-follows r e = rw run-force (follows-more (force s) (agreed_in since) r e)

  pub run-refuted : (r : Implication ℕ) (k : ℕ) → RefutedBy s r k → RefutedBy end r k
  run-refuted r k h = record {
    used = omega (arith, run-used, h.used);
    by_row = rw (run-force, run_row k h.used) (refutes-grown (force s) more o (joined o m) r
        (sub_trans (has_more (force s) (agreed_in since) o) (has-joined more o m))
        (sub_trans (lacks-more (force s) (agreed_in since) o) (lacks-joined more o m)) h.by_row);
  }
    where
      more : List (Implication ℕ)
      more = force s ++ agreed_in since

      o : Object
      o = object_at s.rows k

      m : Object
      m = marks_for k since

  pub run_settled : (r : Implication ℕ) → Settled s r → Settled end r
  run_settled r (inl e) = inl (run-follows r e)
  run_settled r (inr (k, h)) = inr (k, run-refuted r k h)

module _ (s : State) (r : Implication ℕ) where
  -- ---- the first row that refutes

  pub first-least : (k : ℕ) → RefutedBy s r k → first_row s r ≤ k
  unfolding first_refuting
  first-least k h = lowest-least (λ o. refutes (force s) o r) s.rows (object 0 0) k h.used h.by_row

  pub first-refutes : first_row s r < length s.rows → RefutedBy s r (first_row s r)
  unfolding first_refuting
  first-refutes h = record { used = h; by_row = (lowest-at (λ o. refutes (force s) o r) s.rows (object 0 0) h).0 }

  pub first-used : Refuted s r → first_row s r < length s.rows
  first-used (k, h) = omega (arith, first-least k h, h.used)

  -- some row refutes it, or none does
  pub refuted-or-not : Refuted s r ⊎ Unrefuted s r
  unfolding first_refuting
  refuted-or-not = ⊎_elim (λ h. inl (first_row s r, first-refutes h)) (λ h. inr (none-lowest (λ o. refutes (force s) o r) s.rows h))
      (lt-or-le (first_row s r) (length s.rows))

  -- ---- what the read-only calls say

  -- one said that it follows: its checks pass, and it does
  pub said-follows : SaysFollows s r → (first_failing (checks_of s (follow r)) ≡ none) × Follows s r
  unfolding performed
  said-follows = perform-cases s (follow r) (λ t. t.answer ≡ followed true → (first_failing (checks_of s (follow r)) ≡ none) × Follows s r)
      (λ e h. (e, cc)) (λ x e h. absurd (let z : ◌≡◌ {A = ℕ} 0 1 = cc in omega arith))

  pub says-follows : first_failing (checks_of s (follow r)) ≡ none → Follows s r → SaysFollows s r
  unfolding performed
  says-follows e f = ap (λ t. t.answer) (perform-accepted s (follow r) e) ∙ ap followed f

  -- the other named row k: its checks pass, and k is the first row that refutes
  pub said-refuted : (k : ℕ) → SaysRefuted s r k → (first_failing (checks_of s (refute r)) ≡ none) × (first_row s r ≡ k) × Refuted s r
  unfolding performed refuted_at
  said-refuted k = perform-cases s (refute r)
      (λ t. t.answer ≡ refuted k → (first_failing (checks_of s (refute r)) ≡ none) × (first_row s r ≡ k) × Refuted s r)
      (λ e h. let t = named (ltb (first_row s r) (length s.rows)) refl h in (e, t.0, t.1))
      (λ x e h. absurd (let z : ◌≡◌ {A = ℕ} 0 1 = cc in omega arith))
    where
      named : (b : Bool) → ltb (first_row s r) (length s.rows) ≡ b
          → elim b as (λ x. Answer) [ true ↦ refuted (first_row s r) | false ↦ unrefuted ] ≡ refuted k → (first_row s r ≡ k) × Refuted s r
      named true e h = (cc, (first_row s r, first-refutes (ltb-true _ _ e)))
      named false e h = absurd (let z : ◌≡◌ {A = ℕ} 0 1 = cc in omega arith)

  pub says-refuted : first_failing (checks_of s (refute r)) ≡ none → Refuted s r → SaysRefuted s r (first_row s r)
  unfolding performed refuted_at
  says-refuted e h =
      ap (λ t. t.answer) (perform-accepted s (refute r) e)
      ∙ ap (λ b. elim b as (λ x. Answer) [ true ↦ refuted (first_row s r) | false ↦ unrefuted ]) (lt-ltb (first_row s r) (length s.rows) (first-used h))

  -- ---- never both

  -- where no row contradicts, none refutes what follows
  pub fine-apart : Fine s → Follows s r → Refuted s r → ⊥
  fine-apart f e (k, h) =
      let o = object_at s.rows k in
      let consistent = apart-contradicts (force s) o (f.consistent o (object-member k s.rows h.used)) in
      true≢false (sym h.by_row ∙ consistent-spares (force s) o r consistent e)

  -- the two calls pass their checks only where no row contradicts
  pub never_said_both : (k : ℕ) → SaysFollows s r → SaysRefuted s r k → ⊥
  unfolding checks_of
  never_said_both k a b =
      let x = said-follows a in
      fine-apart (checks-fine s (r ∷ []) x.0).0 x.1 (said-refuted k b).2
