-- What a call by value gives back: a record that it leaves as it was, or one that it changed, with its answer.
use Rattle.std.specs.Prelude.{true, false}
use Rattle.session.specs.declared.Session.{Session}
use Rattle.session.specs.declared.Turn.{Turn}

abbrev pub kept_with : {A : Type 0} → Session → A → Turn A
kept_with s a = record { answer = a; session = s; changed = false }

abbrev pub changed_with : {A : Type 0} → Session → A → Turn A
changed_with s a = record { answer = a; session = s; changed = true }
