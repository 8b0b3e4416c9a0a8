-- What each answer of the replies, of a filing and of a filling says in document 01's terms (01, "How each place should look": a definition
-- gives the number and values for each case), and what a refusal gives back.
use Rattle.std.specs.Prelude.{Result, Ok, Err}
use Rattle.machine.specs.Machine.{Answer, taken, refused}
use Rattle.session.specs.declared.Session.{Session}
use Rattle.session.specs.declared.Refusal.{Refusal}
use Rattle.session.specs.declared.Turn.{Turn}
use Rattle.session.specs.Turns.{kept_with}

abbrev pub reply_answer : Result (Unit {0}) Refusal → Answer
reply_answer (Ok u) = taken
reply_answer (Err r) = refused r

-- a refusal: the record as it was
abbrev pub refused_with : Session → Refusal → Turn (Result (Unit {0}) Refusal)
refused_with s r = kept_with s (Err r)
