-- A walk as computed cases (`cases`). What a line is refused with, and how a walk goes on from its first line.
use Rattle.std.specs.Prelude.{◌≡◌, refl, List, [], ◌∷◌, ℕ, ◌≤◌, ◌<◌, length, Ok, Err}
use borrow.Author.Tests.{lt-ltb, le-ltb, eq-eqb, ne_eqb}
use Rattle.table_kinds.specs.declared.Kind.{Kind}
use Rattle.table_kinds.specs.declared.Kind.TheVariants.{Letter, Title, Objects, Attributes, Marks}
use Rattle.line_bytes.specs.Everywhere.{everywhere}
use Rattle.table_counts.specs.Counts.{is_count}
use Rattle.session.specs.Refusals.{refusal}
use Rattle.table_lines.specs.Lines.{line_of, bytes_at, after}
use Rattle.table_kinds.specs.Kinds.{absent}
use Rattle.line_faults.specs.Faults.{fault}
use Rattle.line_walk.specs.Walk.{line_fault, walk}

-- computed: the first failing line decides, with its own number and where it begins; a missing line is at the file's end; the last line
-- may lack its line feed
cases : (walk (Letter ∷ Title ∷ Objects ∷ Attributes ∷ []) (66 ∷ 10 ∷ 10 ∷ 88 ∷ 10 ∷ 88 ∷ []) 0 ≡ Err (refusal 23 3))
    × (walk (Letter ∷ Title ∷ []) (66 ∷ 10 ∷ []) 0 ≡ Err (refusal 25 2))
    × (walk (Marks 1 ∷ Marks 1 ∷ []) (88 ∷ 10 ∷ 46 ∷ []) 0 ≡ Ok 3)
unfolding walk line_fault fault is_count everywhere line_of
cases = (refl, refl, refl)

module _ (file : List ℕ) where
  module _ (k : Kind) (at : ℕ) where
    -- a line that is there, and one that is missing
    pub fault-there : at < length file → line_fault k file at ≡ fault k (bytes_at file at)
    unfolding line_fault
    fault-there h = rw (line_fault, lt-ltb at (length file) h)

    pub fault-missing : length file ≤ at → line_fault k file at ≡ absent k
    unfolding line_fault
    fault-missing h = rw (line_fault, le-ltb at (length file) h)

    module _ (ks : List Kind) where
      -- the first line is fine, or it is refused
      pub walk-passed : line_fault k file at ≡ 0 → walk (k ∷ ks) file at ≡ walk ks file (after file at)
      unfolding walk
      walk-passed e = rw (walk, eq-eqb (line_fault k file at) 0 e)

      pub walk-failed : (line_fault k file at ≡ 0 → ⊥) → walk (k ∷ ks) file at ≡ Err (refusal (line_fault k file at) at)
      unfolding walk
      walk-failed e = rw (walk, ne_eqb (line_fault k file at) 0 e)
