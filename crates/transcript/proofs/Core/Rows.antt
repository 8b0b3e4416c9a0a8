-- Where there are as many places for rows as the table has rows, these never run out: the only reply that is refused is a yes
-- (`rows-suffice`). For a row that is filed refutes the question, and one filed before does not: the conclusion of the question
-- lies in the reach of its premise, and the reach leaves out whatever a row lacks that has the premise (`row_new` of `Beats`). So
-- the rows filed are different rows of the table, and while one is still to be filed they are fewer than the table has
-- (`rows-fewer` of `Beats`): a no for which there is no place names one row more than there are places (`ends` of `Conclusion`).
use Rattle.std.specs.Prelude.{◌≡◌, ◌⊎◌, List, [], ◌++◌, ℕ, ◌/◌, ◌≤◌, ◌<◌, length}
use Rattle.std.proofs.Common.{subst, inl, inr, arith}
use Rattle.context.specs.Objects.{Object}
use Rattle.context.specs.Tables.{Table}
use Rattle.machine.specs.Checks.{Lent, State}
use Rattle.machine.specs.Machine.{opening, opened}
use Rattle.output_lines.specs.Lines.{yes_line}
use Rattle.closing_lines.specs.Closing.{refusal_line}
use Rattle.transcript.specs.Output.{beats, enough}
use Rattle.transcript.specs.Core.{no_place_refusal}
use Rattle.transcript.specs.Ending.{Concluded, Full, ListFull}
use Rattle.transcript.proofs.Core.Conclusion.{Ends, ends}

-- a refused yes
yes-full : (n : ℕ) (text : List ℕ) (f : Full n text) → f.reply ≡ yes_line n f.question → ListFull n text
yes-full n text f y = record {
  before = f.before;
  question = f.question;
  whole = subst (λ line. text ≡ f.before ++ (line ++ refusal_line no_place_refusal)) y f.whole;
}

pub rows-suffice : (table : List Object) (n : ℕ) (lent : Lent) (s : State) → Table n table → opening n lent [] [] ≡ opened s
    → length table ≤ lent.rows / 2
    → Concluded n table (beats (enough s) table s 0) ⊎ ListFull n (beats (enough s) table s 0)
rows-suffice table n lent s complete e places = go (ends table n lent s complete e)
  where
    text : List ℕ
    text = beats (enough s) table s 0

    yes : (f : Full n text) → (f.reply ≡ yes_line n f.question) ⊎ (lent.rows / 2 < length table) → ListFull n text
    yes f (inl y) = yes-full n text f y
    yes f (inr few) = absurd (omega arith)

    go : Ends n table lent text → Concluded n table text ⊎ ListFull n text
    go (inl c) = inl c
    go (inr r) = inr (yes r.refused r.short)
