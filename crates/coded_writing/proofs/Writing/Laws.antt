-- The three words of a writer's answer say which answer it was (`codes-tell`), and just those below 100 are refusals (`refusal-code`,
-- `small-code`).
use Rattle.std.specs.Prelude.{◌≡◌, refl, ◌⊎◌, List, ℕ, ◌≤◌, ◌<◌, Result, Ok, Err}
use Rattle.std.proofs.Common.{ap, inl, inr, arith}
use Rattle.session.specs.declared.Refusal.{Refusal}
use Rattle.session.specs.Refusals.{refusal}
use Rattle.answer_words.specs.declared.Answer.{Answer as Coded}
use Rattle.table_writing.specs.Writing.{writing}
use Rattle.table_writing.proofs.Writing.Places.Laws.{right-place}
use Rattle.coded_writing.specs.Writing.{code_of_written}

-- a refusal's number is below 100
abbrev Told : Result ℕ Refusal → Type 0
Told (Ok size) = Unit {0}
Told (Err r) = r.number < 100

module _ (n used : ℕ) (words names : List ℕ) (room : ℕ) where
  pub refusal-code : (r : Refusal) → writing n used words names room ≡ Err r → (code_of_written (Err r)).code < 100
  refusal-code r e = go (right-place n used words names room r e).number
    where
      go : ((0 < r.number) × (r.number ≤ 5)) ⊎ ((r.number ≡ 26) ⊎ (r.number ≡ 30)) → r.number < 100
      go (inl h) = omega arith
      go (inr (inl h)) = omega arith
      go (inr (inr h)) = omega arith

  told : (w : Result ℕ Refusal) → writing n used words names room ≡ w → Told w
  told (Ok size) e = tt
  told (Err r) e = refusal-code r e

pub small-code : (w : Result ℕ Refusal) → (code_of_written w).code < 100 → (r : Refusal) × (w ≡ Err r)
small-code (Ok size) h = absurd (omega arith)
small-code (Err r) h = (r, refl)

same_words : (w v : Result ℕ Refusal) → Told w → Told v → code_of_written w ≡ code_of_written v → w ≡ v
same_words (Ok size) (Ok size') s t e = ap (λ (x : Coded). Ok x.first) e
same_words (Ok size) (Err r) s t e = absurd (omega (arith, ap (λ (x : Coded). x.code) e))
same_words (Err r) (Ok size) s t e = absurd (omega (arith, ap (λ (x : Coded). x.code) e))
same_words (Err r) (Err r') s t e = ap (λ (x : Coded). Err (refusal x.code x.first)) e

pub codes-tell : (n used : ℕ) (words names : List ℕ) (room : ℕ) (m used' : ℕ) (words' names' : List ℕ) (room' : ℕ)
    → code_of_written (writing n used words names room) ≡ code_of_written (writing m used' words' names' room')
    → writing n used words names room ≡ writing m used' words' names' room'
codes-tell n used words names room m used' words' names' room' e =
    same_words (writing n used words names room) (writing m used' words' names' room') (told n used words names room _ refl)
    (told m used' words' names' room' _ refl) e
