-- A program answers an input where its first bytes give the output of all of it (`input-answered`).
use Rattle.std.specs.Prelude.{◌≡◌, List, ℕ, length, take}
use Rattle.std.proofs.Common.{ap, ◌∙◌, subst}
use Rattle.handed_output.specs.declared.Told.{Told}
use Rattle.handed_output.specs.Handing.{WritesIn}
use Rattle.standard_streams.specs.Answers.{AnswersIn}

pub input-answered : (output : List ℕ → List ℕ) (most : ℕ) → ((input : List ℕ) → output (take most input) ≡ output input)
    → (file before out : List ℕ) (size : ℕ) (r : Told) → length file ≡ most → WritesIn before out r (output (take size file))
    → AnswersIn output most file size before out r
input-answered output most first file before out size r e w = record {
  buffer = e;
  answer = λ input h. subst (λ bs. WritesIn before out r bs) (ap output h ∙ first input) w;
}
