-- An accepted yes finds a place; what the record and the lent words hold after an accepted reply or filing, and after a refused one
-- (`refused-turns`).
use Rattle.std.specs.Prelude.{◌≡◌, refl, ℕ, ◌+◌, ◌*◌, ◌/◌, ◌≤◌, ◌<◌, min, length, set, Result}
use Rattle.std.proofs.Common.{sym, ap, ◌∙◌, subst, add-one, arith, length-set}
use mathlib.Core.List.{List, [], ◌∷◌, ◌++◌}
use Rattle.std.proofs.Math.Option.{none}
use borrow.Author.Tests.{leb-false}
use Rattle.session.specs.declared.Session.{Session}
use Rattle.session.specs.declared.Refusal.{Refusal}
use Rattle.session.specs.declared.Turn.{Turn}
use Rattle.theory.specs.Implications.{Implication}
use Rattle.implication.proofs.Pairs.Laws.{pairs-put}
use Rattle.implication.specs.Closure.{implication, implications_of, all_implications, in_force}
use Rattle.next_set.specs.Next.{next}
use Rattle.context.specs.Objects.{object, objects_of}
use Rattle.machine.specs.Checks.{State, first_failing, session_checks, yes_checks}
use Rattle.machine.proofs.Checks.Laws.{passed-append, none-failing, checked-small}
use Rattle.machine.specs.Machine.{Call, accept, Answer, refused, turn, agreeing, after_filing, checks_of, perform}
use Rattle.machine.specs.Calls.{state_of, TurnedFrom}
use Rattle.machine.proofs.Calls.Laws.{performs, turns, rows_kept, list_kept}
use Rattle.session_replies.specs.Answers.{reply_answer, refused_with}

-- an accepted yes finds a place, and n is at most 64
module _ (s : State) where
  pub yes-small : first_failing (checks_of s accept) ≡ none → (s.n ≤ 64) × (length s.list < s.lent.list / 2)
  unfolding checks_of yes_checks
  yes-small e =
      let p = passed-append (session_checks s []) (yes_checks s) e in
      ((checked-small s [] (none-failing (session_checks s []) p.0)).0, leb-false _ _ p.1.1.1.0)

module _ (x : Session) (rows list background : List ℕ) (a b : ℕ) where
  abbrev before : State
  before = state_of x rows list background

  pub yes-holds : x.n ≤ 64 → x.rules * 2 + 1 < length list
      → let words = set (set list (x.rules * 2) a) (x.rules * 2 + 1) b in
      state_of (record { n = x.n; rows = x.rows; rules = x.rules + 1; current = next (in_force background words (x.rules + 1)) (min x.n 64) x.current }) rows words background
      ≡ agreeing before (implication a b)
  yes-holds small h = λ i. record {
    n = x.n;
    lent = record { rows = length rows; list = same i; background = length background };
    background = all_implications background;
    rows = objects_of x.rows rows;
    list = joined i;
    current = next (all_implications background ++ joined i) (limit i) x.current;
  }
    where
      words : List ℕ
      words = set (set list (x.rules * 2) a) (x.rules * 2 + 1) b

      same : length words ≡ length list
      same = length-set (set list (x.rules * 2) a) (x.rules * 2 + 1) b ∙ length-set list (x.rules * 2) a

      joined : implications_of (x.rules + 1) words ≡ implications_of x.rules list ++ (implication a b ∷ [])
      joined = ap (λ k. implications_of k words) (add-one x.rules) ∙ pairs-put implication x.rules list a b h

      limit : min x.n 64 ≡ x.n
      limit = omega arith

  -- so it is for a next set p and a question q that are known to be those
  pub yes-leaves : {p : ℕ} {q : Implication ℕ} → x.n ≤ 64 → x.rules * 2 + 1 < length list
      → let words = set (set list (x.rules * 2) a) (x.rules * 2 + 1) b in
      p ≡ next (in_force background words (x.rules + 1)) (min x.n 64) x.current → implication a b ≡ q
      → state_of (record { n = x.n; rows = x.rows; rules = x.rules + 1; current = p }) rows words background ≡ agreeing before q
  yes-leaves small h e same = rw e (yes-holds small h ∙ ap (agreeing before) same)

  pub filing-holds : x.rows * 2 + 1 < length rows
      → state_of (record { n = x.n; rows = x.rows + 1; rules = x.rules; current = x.current }) (set (set rows (x.rows * 2) a) (x.rows * 2 + 1) b) list background
      ≡ after_filing before (object a b)
  filing-holds h = λ i. record {
    n = x.n;
    lent = record { rows = same i; list = length list; background = length background };
    background = all_implications background;
    rows = joined i;
    list = implications_of x.rules list;
    current = x.current;
  }
    where
      words : List ℕ
      words = set (set rows (x.rows * 2) a) (x.rows * 2 + 1) b

      same : length words ≡ length rows
      same = length-set (set rows (x.rows * 2) a) (x.rows * 2 + 1) b ∙ length-set rows (x.rows * 2) a

      joined : objects_of (x.rows + 1) words ≡ objects_of x.rows rows ++ (object a b ∷ [])
      joined = ap (λ k. objects_of k words) (add-one x.rows) ∙ pairs-put object x.rows rows a b h

-- a call that the machine refuses, where the record is given back as it was
pub refused-turns : {c : Call} {s : Session} {rows list background : List ℕ} {x : Turn (Result (Unit {0}) Refusal)} (r : Refusal) → x ≡ refused_with s r
    → perform (state_of s rows list background) c ≡ turn (refused r) (state_of s rows list background)
    → TurnedFrom (λ (a : Answer). a) c s rows list background (reply_answer x.answer) x.session rows list x.changed
refused-turns {c} {s} {rows} {list} {background} r e h =
    let g = state_of s rows list background in
    subst (λ (y : Turn (Result (Unit {0}) Refusal)). TurnedFrom (λ (a : Answer). a) c s rows list background (reply_answer y.answer) y.session rows list y.changed) (sym e)
    (turns (performs h (sym (rows_kept c r g rows)) (sym (list_kept c r g list))) refl)

-- an implication put at place k, said of another place and another implication that are the same
pub written : (k j : ℕ) (ws : List ℕ) (q r : Implication ℕ) → q ≡ r → k ≡ j
    → set (set ws (k * 2) q.premise) (k * 2 + 1) q.conclusion ≡ set (set ws (j * 2) r.premise) (j * 2 + 1) r.conclusion
written k j ws q r e i = λ x. set (set ws (i x * 2) (e x).premise) (i x * 2 + 1) (e x).conclusion
