-- The three words of an answer of listing say which answer it was (`codes-tell`), and just those below 100 are refusals (`refusal-code`,
-- `small-code`).
use Rattle.std.specs.Prelude.{◌≡◌, refl, ◌⊎◌, List, ℕ, ◌≤◌, ◌<◌, Result, Ok, Err}
use Rattle.std.proofs.Common.{ap, inl, inr, arith}
use Rattle.session.specs.declared.Refusal.{Refusal}
use Rattle.session.specs.Refusals.{refusal}
use Rattle.answer_words.specs.declared.Answer.{Answer as Coded}
use Rattle.nearly_listing.specs.Listing.{listing}
use Rattle.nearly_listing.proofs.Listing.Laws.{right-place}
use Rattle.coded_nearly.specs.Listing.{code_of_nearly}

-- a refusal's number is below 100
abbrev Told : Result ℕ Refusal → Type 0
Told (Ok set) = Unit {0}
Told (Err r) = r.number < 100

module _ (n used : ℕ) (words : List ℕ) (premise percent : ℕ) where
  pub refusal-code : (r : Refusal) → listing n used words premise percent ≡ Err r → (code_of_nearly (Err r)).code < 100
  refusal-code r e = go (right-place n used words premise percent r e).number
    where
      go : ((0 < r.number) × (r.number ≤ 5)) ⊎ (r.number ≡ 31) → r.number < 100
      go (inl h) = omega arith
      go (inr h) = omega arith

  told : (x : Result ℕ Refusal) → listing n used words premise percent ≡ x → Told x
  told (Ok set) e = tt
  told (Err r) e = refusal-code r e

pub small-code : (x : Result ℕ Refusal) → (code_of_nearly x).code < 100 → (r : Refusal) × (x ≡ Err r)
small-code (Ok set) h = absurd (omega arith)
small-code (Err r) h = (r, refl)

same_words : (x y : Result ℕ Refusal) → Told x → Told y → code_of_nearly x ≡ code_of_nearly y → x ≡ y
same_words (Ok set) (Ok set') s t e = ap (λ (w : Coded). Ok w.first) e
same_words (Ok set) (Err r) s t e = absurd (omega (arith, ap (λ (w : Coded). w.code) e))
same_words (Err r) (Ok set) s t e = absurd (omega (arith, ap (λ (w : Coded). w.code) e))
same_words (Err r) (Err r') s t e = ap (λ (w : Coded). Err (refusal w.code w.first)) e

pub codes-tell : (n used : ℕ) (words : List ℕ) (premise percent m used' : ℕ) (words' : List ℕ) (premise' percent' : ℕ)
    → code_of_nearly (listing n used words premise percent) ≡ code_of_nearly (listing m used' words' premise' percent')
    → listing n used words premise percent ≡ listing m used' words' premise' percent'
codes-tell n used words premise percent m used' words' premise' percent' e =
    same_words (listing n used words premise percent) (listing m used' words' premise' percent') (told n used words premise percent _ refl)
    (told m used' words' premise' percent' _ refl) e
