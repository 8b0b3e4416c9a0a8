-- The program writes the same for two files of at most 65,535 bytes with the same lines, whatever their ends, and with any places lent
-- (`same-output`).
use Rattle.std.specs.Prelude.{◌≡◌, refl, List, [], ℕ, ◌≤◌, length, Result, Ok, Err}
use Rattle.std.proofs.Common.{ap₂, inl, inr}
use Rattle.session.specs.declared.Refusal.{Refusal}
use Rattle.table_layout.specs.declared.Layout.{Layout}
use Rattle.context.specs.Objects.{Object}
use Rattle.machine.specs.Checks.{Lent}
use Rattle.machine.specs.Machine.{opening}
use Rattle.table_lines.specs.Pieces.{lines_of}
use Rattle.table_layout.specs.Layout.{most_bytes}
use Rattle.complete_tables.specs.Complete.{opened_complete}
use Rattle.transcript.specs.Output.{interviewed, written, output_with}
use Rattle.same_lines.specs.Files.{SameAnswer}
use Rattle.same_lines.proofs.Files.Theorem.{same_lines}
use Rattle.same_output.specs.Output.{SameWritten}

module _ (f g : List ℕ) (lent : Lent) where
  -- the output depends on the rows and the number of attributes alone, or on the refusal
  written_same : (o o' : Result Layout Refusal) → SameAnswer f g o o' → SameWritten f g (written lent f o) (written lent g o')
  written_same (Ok l) (Ok l') a =
      inl (ap₂ (λ (table : List Object) (n : ℕ). interviewed table (opening n lent [] [])) a.rows a.layout.attributes)
  written_same (Ok l) (Err r) a = absurd a
  written_same (Err r) (Ok l) a = absurd a
  written_same (Err r) (Err r') a = inr (r, r', a, refl, refl)

  pub same-output : length f ≤ most_bytes → length g ≤ most_bytes → lines_of f ≡ lines_of g
      → SameWritten f g (output_with lent f) (output_with lent g)
  unfolding output_with
  same-output h h' e = written_same (opened_complete f) (opened_complete g) (same_lines f g h h' e).complete_opened
