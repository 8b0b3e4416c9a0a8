-- What each answer of a test says in the machine's terms (01, "How each place should look": a definition gives the number and values for
-- each case).
use Rattle.std.specs.Prelude.{Result, Ok, Err}
use Rattle.session.specs.declared.Refusal.{Refusal}
use Rattle.machine.specs.Machine.{Answer, refuting, refused}

abbrev pub testing_answer : Result (Unit {0}) Refusal → Answer
testing_answer (Ok u) = refuting
testing_answer (Err r) = refused r
