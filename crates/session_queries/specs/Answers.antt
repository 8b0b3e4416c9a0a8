-- What each answer of the read-only calls says in document 01's terms (01, "How each place should look": a definition gives the number and
-- values for each case).
use Rattle.std.specs.Prelude.{Bool, ℕ, Result, Ok, Err, Option, Some, None}
use Rattle.session.specs.declared.Refusal.{Refusal}
use Rattle.machine.specs.Machine.{Answer, followed, refuted, unrefuted, refused}

-- whether the implication follows
abbrev pub following_answer : Result Bool Refusal → Answer
following_answer (Ok b) = followed b
following_answer (Err r) = refused r

-- the row that refutes it, if one does
abbrev pub refuting_answer : Result (Option ℕ) Refusal → Answer
refuting_answer (Ok (Some p)) = refuted p
refuting_answer (Ok None) = unrefuted
refuting_answer (Err r) = refused r
