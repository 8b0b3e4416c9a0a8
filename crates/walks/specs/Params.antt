-- The parameters of the functions that are walked, each with its machine values, and signatures of them. No signature has bounds, and a
-- contract speaks of each parameter's last value.
use Rattle.std.specs.Prelude.{ℕ, List, [], ◌∷◌}
use mir.Syntax.{Width, named}
use mir.Val.{Val}
use contract.Lifetimes.{Lfts, Within, lft_at}
use denote.Builtin.{Ref, RefMut, SliceRef, SliceRefMut}
use denote.Exit.{yes}
use denote.Laws.{Is, Ises, Spells, Tells, Tellss}
use denote.Plain.{UInt, uint_vals, uint_Tells}
use denote.Ref.{shr_vals, mut_vals, mut_Tells, shr_Tells}
use denote.Signature.{Slot, types_at, plain}
use denote.Slice.{shr_slice_vals, mut_slice_vals, mut_slice_Tells, shr_slice_Tells}
use denote.Struct.Declared.{row}
use denote.Struct.Laws as LL
use denote.Triple.Clauses.{Ended}
use denote.Triple.End.{all}
use Rattle.walks.specs.Lent.{Lendable}

pub record Param (n : ℕ) : Type 2 where
  pub slot : Slot n
  pub spell : (κs : Lfts n) → (slot.row κs).Denot → List Val
  pub tell : (κs : Lfts n) → Tells (slot.row κs) (Is (slot.row κs)) (spell κs)

module _ {n : ℕ} where
  -- a struct, lent to be written, lent to be read, and by value
  abbrev pub mut_struct : (j : ℕ) → Within n j → Lendable → Param n
  mut_struct j ok T = record { slot = RefMut j ok (row T.type) tt; spell = λ κs. mut_vals; tell = λ κs. mut_Tells (named j) (lft_at n j ok κs) (row T.type) }

  abbrev pub shr_struct : (j : ℕ) → Within n j → Lendable → Param n
  shr_struct j ok T = record { slot = Ref j ok (row T.type) tt; spell = λ κs. shr_vals; tell = λ κs. shr_Tells (named j) (lft_at n j ok κs) (row T.type) }

  abbrev pub own_struct : Lendable → Param n
  own_struct T = record { slot = plain (λ κs. row T.type); spell = λ κs. LL.vals T.type T.laws; tell = λ κs. LL.tells T.type T.laws }

  -- a slice of numbers of a width, lent to be written and lent to be read, and a number
  abbrev pub mut_slice : (j : ℕ) → Within n j → Width → Param n
  mut_slice j ok w = record { slot = SliceRefMut j ok (UInt w) tt; spell = λ κs. mut_slice_vals; tell = λ κs. mut_slice_Tells (named j) (lft_at n j ok κs) (UInt w) }

  abbrev pub shr_slice : (j : ℕ) → Within n j → Width → Param n
  shr_slice j ok w = record { slot = SliceRef j ok (UInt w) tt; spell = λ κs. shr_slice_vals; tell = λ κs. shr_slice_Tells (named j) (lft_at n j ok κs) (UInt w) }

  abbrev pub number : Width → Param n
  number w = record { slot = plain (λ κs. UInt w); spell = λ κs. uint_vals w; tell = λ κs. uint_Tells w }

  abbrev pub slots : List (Param n) → List (Slot n)
  slots [] = []
  slots (p ∷ ps) = p.slot ∷ slots ps

  abbrev pub spells : (ps : List (Param n)) (κs : Lfts n) → Spells (types_at (slots ps) κs)
  spells [] κs = tt
  spells (p ∷ ps) κs = (p.spell κs, spells ps κs)

  pub tells : (ps : List (Param n)) (κs : Lfts n) → Tellss (types_at (slots ps) κs) (Ises (types_at (slots ps) κs)) (spells ps κs)
  tells [] κs = tt
  tells (p ∷ ps) κs = (p.tell κs, tells ps κs)

pub record Header : Type 2 where
  pub lifetimes : ℕ
  pub params : List (Param lifetimes)
  pub result : Slot lifetimes

abbrev pub keeping : Header → Ended
keeping h = record { signature = record { lifetimes = h.lifetimes; outlives = []; params = slots h.params; result = h.result }; kept = all yes (slots h.params) }
