-- Answers in three words: a code and two values. A refusal has its own number and its place; the other codes are above all
-- refusal numbers.
use Rattle.std.specs.Prelude.{Bool, true, false, ℕ, eqb}
use denote.Triple.Both.{Both}
use Rattle.std.specs.Borrow.{MutBor}
use Rattle.session.specs.Refusals.{refusal}
use Rattle.implication.specs.Closure.{implication}
use Rattle.machine.specs.Machine.{Answer, finished, moved, asked, taken, followed, refuted, unrefuted, refuting, refused, Opening, opened, rejected}
use Rattle.answer_words.specs.declared.Answer.{Answer as Coded}

abbrev pub coded : ℕ → ℕ → ℕ → Coded
coded c a b = record { code = c; first = a; second = b }

abbrev pub code_of : Answer → Coded
code_of finished = coded 100 0 0
code_of moved = coded 101 0 0
code_of (asked q) = coded 102 q.premise q.conclusion
code_of taken = coded 103 0 0
code_of (followed true) = coded 104 1 0
code_of (followed false) = coded 104 0 0
code_of (refuted p) = coded 105 p 0
code_of unrefuted = coded 106 0 0
code_of refuting = coded 108 0 0
code_of (refused r) = coded r.number r.place 0

-- the answer that three words say
unfoldable pub answer_in : Coded → Answer
answer_in x =
    elim (eqb x.code 100) [
      | true ↦ finished
      | false ↦ elim (eqb x.code 101) [
        | true ↦ moved
        | false ↦ elim (eqb x.code 102) [
          | true ↦ asked (implication x.first x.second)
          | false ↦ elim (eqb x.code 103) [
            | true ↦ taken
            | false ↦ elim (eqb x.code 104) [
              | true ↦ followed (eqb x.first 1)
              | false ↦ elim (eqb x.code 105) [
                | true ↦ refuted x.first
                | false ↦ elim (eqb x.code 106) [
                  | true ↦ unrefuted
                  | false ↦ elim (eqb x.code 108) [ true ↦ refuting | false ↦ refused (refusal x.code x.first) ]
                ]
              ]
            ]
          ]
        ]
      ]
    ]

-- an opening is taken, or refused
abbrev pub code_of_opening : Opening → Coded
code_of_opening (opened s) = coded 103 0 0
code_of_opening (rejected r) = coded r.number r.place 0

-- whether it is taken
abbrev pub is_opened : Opening → Bool
is_opened (opened s) = true
is_opened (rejected r) = false

-- a lent answer, as a call finds it and as it leaves it
abbrev pub LentAnswer : Type 0
LentAnswer = Both (MutBor Coded) (MutBor Coded)
