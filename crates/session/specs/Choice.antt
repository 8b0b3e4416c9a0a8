-- One of two values, by a test: what a record is after a call that stores it only where it changed.
use Rattle.std.specs.Prelude.{Bool, true, false}

abbrev pub chosen : {X : Type 0} → Bool → X → X → X
chosen true a b = a
chosen false a b = b
