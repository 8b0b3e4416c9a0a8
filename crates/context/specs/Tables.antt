-- Complete tables, and when one agrees with an object or an implication (01, "Properties, rows, rules").
use Rattle.std.specs.Prelude.{◌≡◌, false, ℕ}
use mathlib.Core.List.{List, Memᴰ}
use Rattle.std.specs.Int.Bits.{bit_or}
use Rattle.theory.specs.Lists.{All}
use Rattle.theory.specs.Implications.{Implication}
use Rattle.attribute_set.specs.Sets.{Sub, Apart, full, without}
use Rattle.context.specs.Objects.{Object, object, refutes_written}

-- a complete object over n attributes: none is unknown, and none is marked both ways
pub record Complete (n : ℕ) (o : Object) : Type 0 where
  pub whole : bit_or o.yes_marks o.no_marks ≡ full n
  pub apart : Apart o.yes_marks o.no_marks

-- a complete table has only complete objects, possibly none
abbrev pub Table : ℕ → List Object → Type 0
Table n t = All (Complete n) t

-- the complete object whose yes marks are s
abbrev pub completed : ℕ → ℕ → Object
completed n s = object s (without (full n) s)

-- c has all marks of o
pub record Extends (o c : Object) : Type 0 where
  pub yes_marks : Sub o.yes_marks c.yes_marks
  pub no_marks : Sub o.no_marks c.no_marks

-- the table agrees with o: one of its objects has all marks of o
pub record AgreesObject (t : List Object) (o : Object) : Type 0 where
  pub by : Object
  pub member : Memᴰ by t
  pub extends : Extends o by

-- the table agrees with r: none of its objects refutes r, by its own marks
abbrev pub AgreesImplication : List Object → Implication ℕ → Type 0
AgreesImplication t r = All (λ c. refutes_written c r ≡ false) t
