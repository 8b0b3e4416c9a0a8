-- A call of known kind is made as that call, and one of unknown kind changes nothing.
use Rattle.std.specs.Prelude.{◌≡◌, ◌<◌, List, ℕ}
use Rattle.std.proofs.Math.Path.{refl}
use Rattle.std.proofs.Common.{sym, ap, ◌∙◌, subst, ne_eqb, arith}
use Rattle.std.proofs.Math.Option.{Option, none, some}
use Rattle.implication.specs.Closure.{implication}
use Rattle.context.specs.Objects.{object}
use Rattle.machine.specs.Machine.{Call, step, accept, reject, follow, refute, test, file, fill}
use Rattle.machine.specs.Calls.{MadeFrom}
use Rattle.session.specs.declared.Session.{Session}
use Rattle.answer_words.specs.declared.Answer.{Answer as Coded}
use Rattle.answer_words.specs.Codes.{coded, code_of}
use Rattle.logged_calls.specs.declared.CallKind.{CallKind}
use Rattle.logged_calls.specs.declared.CallKind.TheVariants.{Step, Yes, No, Follows, Refuted, Test, File, Fill}
use Rattle.logged_calls.specs.Kinds.{number_of, call_of, ReplaysFrom}

-- a kind that is none of the eight is no call
pub call-unknown : (k a b c : ℕ) → (k ≡ 0 → ⊥) → (k ≡ 1 → ⊥) → (k ≡ 2 → ⊥) → (k ≡ 3 → ⊥) → (k ≡ 4 → ⊥) → (k ≡ 5 → ⊥) → (k ≡ 6 → ⊥) → (k ≡ 7 → ⊥) → call_of k a b c ≡ none
unfolding call_of
call-unknown k a b c n0 n1 n2 n3 n4 n5 n6 n7 =
    rw (ne_eqb k 0 n0, call_of, ne_eqb k 1 n1, ne_eqb k 2 n2, ne_eqb k 3 n3, ne_eqb k 4 n4, ne_eqb k 5 n5, ne_eqb k 6 n6, ne_eqb k 7 n7)

-- the eight kinds
module _ (a b c : ℕ) where
  pub kind-step : call_of 0 a b c ≡ some step
  unfolding call_of
  kind-step = refl

  pub kind-yes : call_of 1 a b c ≡ some accept
  unfolding call_of
  kind-yes = refl

  pub kind-no : call_of 2 a b c ≡ some (reject (object a b))
  unfolding call_of
  kind-no = refl

  pub kind-follows : call_of 3 a b c ≡ some (follow (implication a b))
  unfolding call_of
  kind-follows = refl

  pub kind-refuted : call_of 4 a b c ≡ some (refute (implication a b))
  unfolding call_of
  kind-refuted = refl

  pub kind-test : call_of 5 a b c ≡ some (test (object a b))
  unfolding call_of
  kind-test = refl

  pub kind-filing : call_of 6 a b c ≡ some (file (object a b))
  unfolding call_of
  kind-filing = refl

  pub kind-filling : call_of 7 a b c ≡ some (fill a (object b c))
  unfolding call_of
  kind-filling = refl

-- a call of known kind is made as that call, and one of unknown kind changes nothing
module _ {s after : Session} {rows list background rows' list' : List ℕ} {x : Coded} where
  pub of-kind : (k j a b c : ℕ) {call : Call} → k ≡ j → call_of j a b c ≡ some call → MadeFrom code_of call s rows list background x after rows' list'
      → ReplaysFrom (call_of k a b c) s rows list background x after rows' list'
  of-kind k j a b c e known m =
      subst (λ o. ReplaysFrom o s rows list background x after rows' list') (sym (ap (λ (i : ℕ). call_of i a b c) e ∙ known)) m

pub of-unknown : (s : Session) (rows list background : List ℕ) (x : Coded) (o : Option Call) → o ≡ none → x ≡ coded 107 0 0
    → ReplaysFrom o s rows list background x s rows list
of-unknown s rows list background x o e m = subst (λ c. ReplaysFrom c s rows list background x s rows list) (sym e) (m, (refl, (refl, refl)))

-- ---- by the kind that a number is read as

-- the call of a kind
abbrev pub call_by : CallKind → ℕ → ℕ → ℕ → Call
call_by Step a b c = step
call_by Yes a b c = accept
call_by No a b c = reject (object a b)
call_by Follows a b c = follow (implication a b)
call_by Refuted a b c = refute (implication a b)
call_by Test a b c = test (object a b)
call_by File a b c = file (object a b)
call_by Fill a b c = fill a (object b c)

-- a number is read as the kind that has it
read_kind : (k : CallKind) (a b c : ℕ) → call_of (number_of k) a b c ≡ some (call_by k a b c)
unfolding call_of
read_kind Step a b c = refl
read_kind Yes a b c = refl
read_kind No a b c = refl
read_kind Follows a b c = refl
read_kind Refuted a b c = refl
read_kind Test a b c = refl
read_kind File a b c = refl
read_kind Fill a b c = refl

-- and one past the last kind is no call
past-kinds : (n a b c : ℕ) → 7 < n → call_of n a b c ≡ none
past-kinds n a b c h =
    call-unknown n a b c (λ e. omega arith) (λ e. omega arith) (λ e. omega arith) (λ e. omega arith) (λ e. omega arith) (λ e. omega arith) (λ e. omega arith)
    (λ e. omega arith)

-- a call whose number is read as a kind is made as the call of that kind, and one whose number is past the last changes nothing
module _ {s after : Session} {rows list background rows' list' : List ℕ} {x : Coded} where
  pub of-read : {n : ℕ} {kind : CallKind} (k : CallKind) (a b c : ℕ) → n ≡ number_of kind → kind ≡ k
      → MadeFrom code_of (call_by k a b c) s rows list background x after rows' list'
      → ReplaysFrom (call_of n a b c) s rows list background x after rows' list'
  of-read k a b c e i m = of-kind _ (number_of k) a b c (e ∙ ap number_of i) (read_kind k a b c) m

pub of-past : (s : Session) (rows list background : List ℕ) (x : Coded) (n a b c : ℕ) → 7 < n → x ≡ coded 107 0 0
    → ReplaysFrom (call_of n a b c) s rows list background x s rows list
of-past s rows list background x n a b c h e = of-unknown s rows list background x _ (past-kinds n a b c h) e
