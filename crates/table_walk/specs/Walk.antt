-- Lines of a table file after others, and the empty lines after the last line needed (01, refusals 21 to 28: the first failing line
-- decides).
use Rattle.std.specs.Prelude.{true, false, List, ℕ, zero, suc, length, eqb, ltb, Result, Ok, Err}
use Rattle.session.specs.declared.Refusal.{Refusal}
use Rattle.session.specs.Refusals.{refusal}
use Rattle.table_lines.specs.Lines.{bytes_at, after}
use Rattle.table_kinds.specs.declared.Kind.{Kind}
use Rattle.line_walk.specs.Walk.{walk}

-- a walk, and then more lines
abbrev pub walk_on : Result ℕ Refusal → List Kind → List ℕ → Result ℕ Refusal
walk_on (Ok at) ks file = walk ks file at
walk_on (Err r) ks file = Err r

-- after the last line needed: the first line that is not empty, at most k lines
unfoldable pub rest : ℕ → List ℕ → ℕ → Result ℕ Refusal
rest zero file at = Ok at
rest (suc k) file at =
    elim (ltb at (length file)) [
      | true ↦ elim (eqb (length (bytes_at file at)) 0) [ true ↦ rest k file (after file at) | false ↦ Err (refusal 28 at) ]
      | false ↦ Ok at
    ]

-- the lines needed, then empty lines alone
abbrev pub then_rest : List ℕ → Result ℕ Refusal → Result ℕ Refusal
then_rest file (Ok at) = rest (length file) file at
then_rest file (Err r) = Err r

-- where a walk ends, or where it failed
abbrev pub place_of : Result ℕ Refusal → ℕ
place_of (Ok at) = at
place_of (Err r) = r.place

-- no line of a walk is refused
abbrev pub Passes : Result ℕ Refusal → Type 0
Passes (Ok at) = Unit {0}
Passes (Err r) = ⊥
