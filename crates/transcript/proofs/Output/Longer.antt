-- A longer input gives what its first 65,536 bytes give (`output-first`; 01, "The program": one buffer of 65,536 bytes): 21 goes by the
-- length alone, and 65,536 bytes are one more than a file may have.
use Rattle.std.specs.Prelude.{◌≡◌, List, ℕ, ◌<◌, length, take, Result}
use Rattle.std.proofs.Common.{ap}
use Rattle.session.specs.declared.Refusal.{Refusal}
use Rattle.table_layout.specs.declared.Layout.{Layout}
use Rattle.session.specs.Refusals.{refusal}
use Rattle.machine.specs.Checks.{Lent}
use Rattle.table_layout.specs.Layout.{most_bytes, input_most}
use Rattle.table_layout.proofs.OfLayout.Laws.{opened-long, from-first-bytes}
use Rattle.complete_tables.specs.Complete.{complete_of}
use Rattle.closing_lines.specs.Closing.{refusal_line}
use Rattle.transcript.specs.Output.{written, output_with, output}

long-output : (lent : Lent) (file : List ℕ) → most_bytes < length file → output_with lent file ≡ refusal_line (refusal 21 most_bytes)
unfolding output_with
long-output lent file h = ap (λ (o : Result Layout Refusal). written lent file (complete_of file o)) (opened-long file h)

-- with any places lent
pub first-bytes : (lent : Lent) (file : List ℕ) → output_with lent (take input_most file) ≡ output_with lent file
first-bytes lent = from-first-bytes (output_with lent) _ (long-output lent)

-- as the program lends them
pub output-first : (file : List ℕ) → output (take input_most file) ≡ output file
output-first file = first-bytes _ file
