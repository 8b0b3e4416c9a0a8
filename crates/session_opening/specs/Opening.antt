-- What an opening says in document 01's terms, and what it promises.
use Rattle.std.specs.Prelude.{◌≡◌, List, ℕ, Result, Ok, Err}
use Rattle.session.specs.declared.Refusal.{Refusal}
use Rattle.session.specs.declared.Session.{Session}
use Rattle.machine.specs.Machine.{Opening, opened, rejected}
use Rattle.machine.specs.Calls.{state_of, Words, opening_from}

-- an opening: the state that the record and the lent words then hold
abbrev pub opening_of : Result Session Refusal → List ℕ → List ℕ → List ℕ → Opening
opening_of (Ok s) rows list background = opened (state_of s rows list background)
opening_of (Err r) rows list background = rejected r

-- it is that of the plain machine, with n attributes and so many rows in use
abbrev pub Opens : ℕ → ℕ → Words → Words → Words → Result Session Refusal → Type 0
Opens n used rows list background r =
    opening_of r rows.entry.now list.entry.now background.entry.now
    ≡ opening_from n used rows.entry.now list.entry.now background.entry.now
