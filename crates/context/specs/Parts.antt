-- What the code computes on the way to `lacks` and `refutes`: the set that is spared with an attribute, and the part of a conclusion that
-- an object refutes. `Laws` says what they have to do with `lacks`, `refutes` and the reach.
use Rattle.std.specs.Prelude.{◌≡◌, true, false, List, ℕ}
use Rattle.std.specs.Borrow.{Bor, MutBor}
use denote.Triple.Both.{Both}
use Rattle.std.specs.Int.Bits.{bit_and, bit_or}
use Rattle.theory.specs.Implications.{Implication}
use Rattle.attribute_set.specs.Sets.{inside, meets}
use Rattle.implication.specs.Closure.{in_force, closure}
use Rattle.context.specs.Objects.{Object, objects_of, has, lacks, first_refuting}

-- what a reference points to, at one moment
pub record At (A : Type 0) : Type 0 where
  pub now : A

-- the same as a call finds it and as it leaves it
abbrev pub Lent : Type 0 → Type 0
Lent A = Both (At A) (At A)

-- that of a `&` and that of a `&mut`
abbrev pub shared : {A : Type 0} → Both (Bor A) (Bor A) → Lent A
shared r = record { entry = record { now = r.entry.now }; exit = record { now = r.exit.now } }

abbrev pub mutable : {A : Type 0} → Both (MutBor A) (MutBor A) → Lent A
mutable r = record { entry = record { now = r.entry.now }; exit = record { now = r.exit.now } }

-- a lent slice of words, as a call finds it and as it leaves it
abbrev pub Words : Type 0
Words = Lent (List ℕ)

-- the implications in force in the lent words: all of the background, the first so many of the list
abbrev pub lent_force : Words → Words → ℕ → List (Implication ℕ)
lent_force background list rules = in_force background.entry.now list.entry.now rules

-- k is the place of the first of so many lent objects that refutes r where these are in force
abbrev pub FirstRefuting : Words → Words → ℕ → Words → ℕ → Implication ℕ → ℕ → Type 0
FirstRefuting background list rules rows count r k = k ≡ first_refuting (lent_force background list rules) (objects_of count rows.entry.now) r

-- the closure of an object's yes marks with x, where it does not meet its no marks; else nothing
unfoldable pub spared : List (Implication ℕ) → Object → ℕ → ℕ
spared rs o x =
    elim (meets (closure rs (bit_or o.yes_marks x)) o.no_marks) [ true ↦ 0 | false ↦ closure rs (bit_or o.yes_marks x) ]

-- the part of the conclusion that an object refutes: what it lacks of it, where it has the premise
unfoldable pub refuted_part : List (Implication ℕ) → Object → Implication ℕ → ℕ
refuted_part rs o r = elim (inside r.premise (has rs o)) [ true ↦ bit_and r.conclusion (lacks rs o) | false ↦ 0 ]
