-- The locals and statements of the code that is walked, and its functions.
use Rattle.std.specs.Prelude.{ℕ, List, [], ◌∷◌}
use mir.Syntax.{Width, Lifetime, Mutability, Local, Opd, Body, Fn, named, erased, mut, imm, w8, w64, ty_int, ty_bool, ty_unit, ty_ref, place, field, deref, copy, rv_opd, addr_of, aggregate, assign, local, value_local}
use denote.Memory.{pointee}
use denote.Slice.{slice_ty}
use denote.Struct.Declared.{Declared, row, shape}
use denote.Struct.Struct.{layout}
use denote.Enum.Declared as ED
use denote.Enum.Enum.{layout as enum-layout}

-- ---- locals

abbrev pub nothing : Local
nothing = local ty_unit value_local

abbrev pub word : Local
word = local (ty_int w64) value_local

abbrev pub flag : Local
flag = local ty_bool value_local

-- a pointer to numbers of a width, and a slice of them
abbrev pub pointer_to : Width → Local
pointer_to w = local (ty_ref erased mut (ty_int w)) value_local

abbrev pub slice_of : Width → Lifetime → Mutability → Local
slice_of w ℓ m = local (slice_ty (ty_ref ℓ m (ty_int w))) value_local

abbrev pub pointer : Local
pointer = pointer_to w64

abbrev pub words : Lifetime → Mutability → Local
words = slice_of w64

abbrev pub bytes : Lifetime → Local
bytes ℓ = slice_of w8 ℓ imm

abbrev pub struct : Declared → Local
struct D = local (layout (shape D)) value_local

abbrev pub variants : ED.Declared → Local
variants e = local (enum-layout (ED.shape e)) value_local

abbrev pub lent_struct : ℕ → Mutability → Declared → Local
lent_struct i m D = local (ty_ref (named i) m (pointee (row D).written)) value_local

-- ---- statements

abbrev pub whole_of : ℕ → Opd
whole_of i = copy (place i [])

-- local i is what local j refers to
abbrev pub reads_struct : ℕ → ℕ → Declared → Body
reads_struct i j D = assign (place i []) (rv_opd (copy (place j (deref (layout (shape D)) ∷ []))))

-- local i is a field of local j
abbrev pub takes_field : ℕ → ℕ → ℕ → Body
takes_field i j k = assign (place i []) (rv_opd (copy (place j (field k ∷ []))))

-- a slice in local j is lent on: its pointer in local i, then with its count in local s
abbrev pub takes_address_of : Width → ℕ → ℕ → Body
takes_address_of w i j = assign (place i []) (addr_of (place j (field 0 ∷ deref (ty_int w) ∷ [])))

abbrev pub takes_address : ℕ → ℕ → Body
takes_address = takes_address_of w64

abbrev pub makes_slice : ℕ → ℕ → ℕ → Body
makes_slice s i j = assign (place s []) (aggregate (copy (place i []) ∷ copy (place j (field 1 ∷ [])) ∷ []))

-- what local i refers to becomes a field of local j, or local j itself
abbrev pub stores_field : ℕ → Declared → ℕ → ℕ → Body
stores_field i D j k = assign (place i (deref (layout (shape D)) ∷ [])) (rv_opd (copy (place j (field k ∷ []))))

abbrev pub stores_local : ℕ → Declared → ℕ → Body
stores_local i D j = assign (place i (deref (layout (shape D)) ∷ [])) (rv_opd (copy (place j [])))

-- ---- a function of a number of lifetimes, without bounds, and of a number of parameters. It takes no type and no dictionary

abbrev pub function : ℕ → ℕ → List Local → Body → Fn
function ls ps locals body = record { lifetimes = ls; outlives = []; ty_params = []; givens = 0; params = ps; locals = locals; body = body }
