-- When two session records are the same: number for number (01, "Lent memory": the session record holds n, the rows and list rules in use,
-- and the current set).
use Rattle.std.specs.Prelude.{Bool, ◌&&◌, eqb}
use Rattle.session.specs.declared.Session.{Session}

abbrev pub same_session : Session → Session → Bool
same_session a b = eqb a.n b.n && (eqb a.rows b.rows && (eqb a.rules b.rules && eqb a.current b.current))
