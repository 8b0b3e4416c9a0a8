-- The three words of a call's answer say which answer it was (`read_back`, `codes-tell`), and just those below 100 are refusals
-- (`refusal-code`, `small-code`, `opening_code`). Those of the two read-only calls never say both of one rule (`never-both-coded`).
use Rattle.std.specs.Prelude.{◌≡◌, refl, true, false, List, ℕ, ◌<◌}
use Rattle.std.proofs.Common.{sym, ap, ◌∙◌, arith, ne_eqb}
use Rattle.session.specs.declared.Refusal.{Refusal}
use Rattle.theory.specs.Implications.{Implication}
use Rattle.machine.specs.Checks.{State}
use Rattle.machine.specs.Machine.{Call, follow, refute, Answer, finished, moved, asked, taken, followed, refuted, unrefuted, refuting, refused, perform, Opening, opened, rejected}
use Rattle.demands.proofs.Facts.Refused.{small-number, opening-number}
use Rattle.demands.proofs.ShownResults.Laws.{never_said_both}
use Rattle.machine.specs.Calls.{opening_from}
use Rattle.answer_words.specs.declared.Answer.{Answer as Coded}
use Rattle.answer_words.specs.Codes.{coded, code_of, answer_in, code_of_opening, is_opened}

-- the answer can be read back from its words, where a refusal has a number below 100
read-words : (a : Answer) → ((r : Refusal) → a ≡ refused r → r.number < 100) → answer_in (code_of a) ≡ a
unfolding answer_in
read-words finished p = refl
read-words moved p = refl
read-words (asked q) p = refl
read-words taken p = refl
read-words (followed true) p = refl
read-words (followed false) p = refl
read-words (refuted k) p = refl
read-words unrefuted p = refl
read-words refuting p = refl
read-words (refused r) p =
    let small = p r refl in
    rw (
      ne_eqb r.number 100 (λ e. omega (arith, small)),
      answer_in,
      ne_eqb r.number 101 (λ e. omega (arith, small)),
      ne_eqb r.number 102 (λ e. omega (arith, small)),
      ne_eqb r.number 103 (λ e. omega (arith, small)),
      ne_eqb r.number 104 (λ e. omega (arith, small)),
      ne_eqb r.number 105 (λ e. omega (arith, small)),
      ne_eqb r.number 106 (λ e. omega (arith, small)),
      ne_eqb r.number 108 (λ e. omega (arith, small)),
    )

module _ (s : State) (c : Call) where
  -- a refusal of a call has a number below 100, and so its words have such a code
  refusal-small : (r : Refusal) → (perform s c).answer ≡ refused r → r.number < 100
  refusal-small r e = let h = small-number s c r e in omega arith

  pub refusal-code : (r : Refusal) → (perform s c).answer ≡ refused r → (code_of (perform s c).answer).code < 100
  refusal-code r e = rw e (refusal-small r e)

  -- the answer of a call can be read back from its words
  pub read_back : answer_in (code_of (perform s c).answer) ≡ (perform s c).answer
  read_back = read-words (perform s c).answer refusal-small

  -- so the words tell the answer
  pub words-tell : (x : Coded) → x ≡ code_of (perform s c).answer → (perform s c).answer ≡ answer_in x
  words-tell x e = sym read_back ∙ ap answer_in (sym e)

-- answers of calls with the same words are the same
pub codes-tell : (s t : State) (c d : Call) → code_of (perform s c).answer ≡ code_of (perform t d).answer → (perform s c).answer ≡ (perform t d).answer
codes-tell s t c d e = sym (read_back s c) ∙ ap answer_in e ∙ read_back t d

-- the words of the two read-only calls never say both of one rule, in any state (02, request 8/13): that it follows, and that a row refutes it
pub never-both-coded : (s : State) (r : Implication ℕ) (x y : Coded) → x ≡ code_of (perform s (follow r)).answer → y ≡ code_of (perform s (refute r)).answer
    → x ≡ coded 104 1 0 → (k : ℕ) → y ≡ coded 105 k 0 → ⊥
unfolding answer_in
never-both-coded s r x y e f a k b =
    never_said_both s r k (words-tell s (follow r) x e ∙ ap answer_in a) (words-tell s (refute r) y f ∙ ap answer_in b)

-- only a refusal has a code below 100
pub small-code : (a : Answer) → (code_of a).code < 100 → (r : Refusal) × (a ≡ refused r)
small-code finished h = absurd (omega arith)
small-code moved h = absurd (omega arith)
small-code (asked q) h = absurd (omega arith)
small-code taken h = absurd (omega arith)
small-code (followed true) h = absurd (omega arith)
small-code (followed false) h = absurd (omega arith)
small-code (refuted k) h = absurd (omega arith)
small-code unrefuted h = absurd (omega arith)
small-code refuting h = absurd (omega arith)
small-code (refused r) h = (r, refl)

-- an opening with a code of 100 or more is accepted
pub opening_code : (n used : ℕ) (rows list background : List ℕ) → ((code_of_opening (opening_from n used rows list background)).code < 100 → ⊥)
    → is_opened (opening_from n used rows list background) ≡ true
opening_code n used rows list background h = go (opening_from n used rows list background) refl
  where
    go : (o : Opening) → opening_from n used rows list background ≡ o → is_opened (opening_from n used rows list background) ≡ true
    go (opened s) e = rw e
    go (rejected r) e =
        let k = opening-number n _ _ _ r e in
        absurd (h (rw e (omega arith)))
