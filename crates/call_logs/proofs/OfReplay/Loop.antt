-- The loop that replays a log. Where i calls are made, the machine's run and answers from the present state through the calls
-- left are those of the whole log, the answers so far stand first, and every other lent word is as it was. This holds at the
-- start, each call keeps it, and when no call is left it says what a replay is to leave.
use Rattle.std.specs.Prelude.{◌≡◌, refl, ℕ, suc, ◌+◌, ◌-◌, ◌*◌, ◌/◌, ◌≤◌, ◌<◌, get_or, set}
use Rattle.std.proofs.Math.Path.{sym, ap}
use Rattle.std.proofs.Common.{◌∙◌, subst, take-append-drop, get_or-drop, drop-drop, take-suc-set, drop-set-lt}
use mathlib.Core.List.{List, [], ◌∷◌, ◌++◌, append_assoc, append-nil}
use Rattle.std.proofs.Math.Option.{Option, none, some}
use native.Mathlib.Omega.{arith}
use Rattle.std.proofs.Math.Nat.{sub-zero}
use Rattle.std.proofs.Math.ListN.{length, take, drop, length-set}
use Rattle.machine.specs.Checks.{State}
use Rattle.machine.specs.Machine.{Call, run}
use Rattle.machine.specs.Calls.{state_of}
use Rattle.answer_words.specs.declared.Answer.{Answer as Coded}
use Rattle.logged_calls.specs.Kinds.{call_of, ReplaysFrom}
use Rattle.call_logs.specs.Replay.{calls_of, stored, replay_after, known, answers_of, PastKept, LogWords, log_words, log_of, AllMade}
use Rattle.call_logs.proofs.OfReplay.Laws.{replayed}
use Rattle.session.specs.declared.Session.{Session}

-- ---- the calls left

-- the call at i
abbrev pub call_at : List ℕ → ℕ → Option Call
call_at ws i = call_of (get_or ws (i * 4) 0) (get_or ws (i * 4 + 1) 0) (get_or ws (i * 4 + 2) 0) (get_or ws (i * 4 + 3) 0)

-- the calls from i on, of n
abbrev pub calls_from : ℕ → ℕ → List ℕ → List (Option Call)
calls_from n i ws = calls_of (n - i) (drop (i * 4) ws)

pub calls_at : (ws : List ℕ) (n i : ℕ) → i < n → calls_from n i ws ≡ call_at ws i ∷ calls_from n (i + 1) ws
unfolding calls_of
calls_at ws n i h =
    let e : n - i ≡ suc (n - (i + 1)) = omega arith in
    let z : i * 4 + 0 ≡ i * 4 = omega arith in
    let y : i * 4 + 4 ≡ (i + 1) * 4 = omega arith in
    let k : get_or (drop (i * 4) ws) 0 0 ≡ get_or ws (i * 4) 0 = get_or-drop (i * 4) ws 0 0 ∙ ap (λ (j : ℕ). get_or ws j 0) z in
    let a : get_or (drop (i * 4) ws) 1 0 ≡ get_or ws (i * 4 + 1) 0 = get_or-drop (i * 4) ws 1 0 in
    let b : get_or (drop (i * 4) ws) 2 0 ≡ get_or ws (i * 4 + 2) 0 = get_or-drop (i * 4) ws 2 0 in
    let c : get_or (drop (i * 4) ws) 3 0 ≡ get_or ws (i * 4 + 3) 0 = get_or-drop (i * 4) ws 3 0 in
    let d : drop 4 (drop (i * 4) ws) ≡ drop ((i + 1) * 4) ws = drop-drop 4 (i * 4) ws ∙ ap (λ (j : ℕ). drop j ws) y in
    rw e (rw (k, a, b, c, d) refl)

-- no call is left
pub calls-end : (ws : List ℕ) (n i : ℕ) → n ≤ i → calls_from n i ws ≡ []
unfolding calls_of
calls-end ws n i h =
    let e : n - i ≡ 0 = omega arith in
    rw e

-- a call of unknown kind changes nothing, so that it may be left out
pub run-known : (s : State) (c : Option Call) (cs : List (Option Call)) → run s (known (c ∷ cs)) ≡ run (replay_after s c) (known cs)
unfolding run known
run-known s none cs = refl
run-known s (some c) cs = refl

-- ---- the answers

-- three stores at i * 3 make the words up to there three longer
pub take-stored : (ws : List ℕ) (i a b c : ℕ) → (i + 1) * 3 ≤ length ws
    → take ((i + 1) * 3) (set (set (set ws (i * 3) a) (i * 3 + 1) b) (i * 3 + 2) c) ≡ take (i * 3) ws ++ (a ∷ b ∷ c ∷ [])
take-stored ws i a b c h =
    let k : (i + 1) * 3 ≡ suc (i * 3 + 2) = omega arith in
    let l : i * 3 + 2 ≡ suc (i * 3 + 1) = omega arith in
    let m : i * 3 + 1 ≡ suc (i * 3) = omega arith in
    ap (λ (j : ℕ). take j (set (set (set ws (i * 3) a) (i * 3 + 1) b) (i * 3 + 2) c)) k
    ∙ take-suc-set (set (set ws (i * 3) a) (i * 3 + 1) b) (i * 3 + 2) c (simp length-set (omega arith))
    ∙ ap (λ (j : ℕ). take j (set (set ws (i * 3) a) (i * 3 + 1) b) ++ (c ∷ [])) l
    ∙ ap (λ (t : List ℕ). t ++ (c ∷ [])) (take-suc-set (set ws (i * 3) a) (i * 3 + 1) b (simp length-set (omega arith)))
    ∙ ap (λ (j : ℕ). take j (set ws (i * 3) a) ++ (b ∷ []) ++ (c ∷ [])) m
    ∙ ap (λ (t : List ℕ). t ++ (b ∷ []) ++ (c ∷ [])) (take-suc-set ws (i * 3) a (omega arith))
    ∙ simp append_assoc

-- and leave those past them
pub drop-stored : (ws : List ℕ) (i a b c : ℕ) → drop ((i + 1) * 3) (set (set (set ws (i * 3) a) (i * 3 + 1) b) (i * 3 + 2) c) ≡ drop ((i + 1) * 3) ws
drop-stored ws i a b c =
    drop-set-lt ((i + 1) * 3) (set (set ws (i * 3) a) (i * 3 + 1) b) (i * 3 + 2) c (omega arith)
    ∙ drop-set-lt ((i + 1) * 3) (set ws (i * 3) a) (i * 3 + 1) b (omega arith)
    ∙ drop-set-lt ((i + 1) * 3) ws (i * 3) a (omega arith)

-- words that agree from m on agree from any later place on
pub drop_more : (m n : ℕ) (us vs : List ℕ) → m ≤ n → drop m us ≡ drop m vs → drop n us ≡ drop n vs
drop_more m n us vs h e =
    let k : n ≡ m + (n - m) = omega arith in
    rw k (sym (drop-drop (n - m) m us) ∙ ap (drop (n - m)) e ∙ drop-drop (n - m) m vs)

-- ---- the lent words past those in use

pub past_same : (k : ℕ) (ws : List ℕ) → PastKept k k ws ws
past_same k ws = record { more = omega arith; same = refl; past = refl }

pub past-trans : {k k' k'' : ℕ} {a b c : List ℕ} → PastKept k k' a b → PastKept k' k'' b c → PastKept k k'' a c
past-trans {k} {k'} {k''} {a} {b} {c} p q = record {
  more = omega arith;
  same = q.same ∙ p.same;
  past = q.past ∙ drop_more (k' * 2) (k'' * 2) b a (omega arith) p.past;
}

-- ---- the loop

-- i calls of the log are made
pub record Going (background calls : List ℕ) (s : Session) (before : LogWords) (s' : Session) (after : LogWords) (i : ℕ) : Type 0 where
  pub inside : i ≤ length calls / 4
  pub room : length after.answers ≡ length before.answers
  pub holds : run (state_of s' after.rows after.list background) (known (calls_from (length calls / 4) i calls))
      ≡ run (state_of s before.rows before.list background) (known (log_of calls))
  pub answers : take (i * 3) after.answers ++ answers_of (state_of s' after.rows after.list background) (calls_from (length calls / 4) i calls)
      ≡ answers_of (state_of s before.rows before.list background) (log_of calls)
  pub past : drop (i * 3) after.answers ≡ drop (i * 3) before.answers
  pub rows : PastKept s.rows s'.rows before.rows after.rows
  pub list : PastKept s.rules s'.rules before.list after.list

module _ (background calls : List ℕ) (s : Session) (before : LogWords) where
  pub going_start : Going background calls s before s before 0
  going_start = record {
    inside = omega arith;
    room = refl;
    holds = rw sub-zero;
    answers = rw sub-zero;
    past = refl;
    rows = past_same _ _;
    list = past_same _ _;
  }

  -- the call at i is made, and its answer is stored
  going-stored : (s' : Session) (after : LogWords) (i : ℕ) → Going background calls s before s' after i → i < length calls / 4 → (i + 1) * 3 ≤ length before.answers
      → (e : Coded) (s'' : Session) (rows list : List ℕ)
      → ReplaysFrom (call_at calls i) s' after.rows after.list background e s'' rows list
      → Going background calls s before s''
      (log_words rows list (stored after.answers i e)) (i + 1)
  unfolding answers_of
  going-stored s' after i g h fits e s'' rows list m =
      let one = replayed s' s'' background after.rows after.list rows list (call_at calls i) e m in
      let answered = one.0 in
      let stands = one.1.0 in
      let n = length calls / 4 in
      let x : State = state_of s' after.rows after.list background in
      let y : State = state_of s'' rows list background in
      let c = call_at calls i in
      let left = calls_from n (i + 1) calls in
      let at = calls_at calls n i h in
      record {
        inside = omega arith;
        room = simp length-set g.room;
        holds = ap (λ (z : State). run z (known left)) stands ∙ sym (run-known x c left) ∙ ap (λ cs. run x (known cs)) (sym at) ∙ g.holds;
        answers = ap (λ (t : List ℕ). t ++ answers_of y left) (take-stored after.answers i e.code e.first e.second (omega arith))
            ∙ append_assoc (take (i * 3) after.answers) (e.code ∷ e.first ∷ e.second ∷ []) (answers_of y left)
            ∙ ap (λ (z : State). take (i * 3) after.answers ++ (e.code ∷ e.first ∷ e.second ∷ answers_of z left)) stands
            ∙ ap (λ (d : Coded). take (i * 3) after.answers ++ (d.code ∷ d.first ∷ d.second ∷ answers_of (replay_after x c) left)) answered
            ∙ ap (λ cs. take (i * 3) after.answers ++ answers_of x cs) (sym at)
            ∙ g.answers;
        past = drop-stored after.answers i e.code e.first e.second
            ∙ drop_more (i * 3) ((i + 1) * 3) after.answers before.answers (omega arith) g.past;
        rows = past-trans g.rows one.1.1.0;
        list = past-trans g.list one.1.1.1;
      }

  pub going_on : (s' : Session) (after : LogWords) (i : ℕ) → Going background calls s before s' after i → i < length calls / 4 → (i + 1) * 3 ≤ length before.answers
      → (e : Coded) (s'' : Session) (rows list answers : List ℕ)
      → ReplaysFrom (call_at calls i) s' after.rows after.list background e s'' rows list → answers ≡ stored after.answers i e
      → Going background calls s before s'' (log_words rows list answers) (i + 1)
  going_on s' after i g h fits e s'' rows list answers m is =
      subst (λ ws. Going background calls s before s'' (log_words rows list ws) (i + 1)) (sym is) (going-stored s' after i g h fits e s'' rows list m)

  -- no call is left
  pub going_end : (s' : Session) (after : LogWords) (i : ℕ) → Going background calls s before s' after i → length calls / 4 ≤ i
      → AllMade background calls s before s' after
  unfolding run known answers_of
  going_end s' after i g h =
      let n = length calls / 4 in
      let x : State = state_of s' after.rows after.list background in
      let end = calls-end calls n i h in
      let j : i ≡ n = omega arith in
      let o : take (i * 3) after.answers ≡ answers_of (state_of s before.rows before.list background) (log_of calls) =
      sym (append-nil _) ∙ ap (λ cs. take (i * 3) after.answers ++ answers_of x cs) (sym end) ∙ g.answers in
      record {
        holds = ap (λ cs. run x (known cs)) (sym end) ∙ g.holds;
        answers = sym (take-append-drop (i * 3) after.answers)
            ∙ ap (λ (t : List ℕ). t ++ drop (i * 3) after.answers) o
            ∙ ap (λ (t : List ℕ). answers_of (state_of s before.rows before.list background) (log_of calls) ++ t) g.past
            ∙ ap (λ (m : ℕ). answers_of (state_of s before.rows before.list background) (log_of calls) ++ drop (m * 3) before.answers) j;
        rows = g.rows;
        list = g.list;
      }
