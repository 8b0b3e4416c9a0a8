-- The line of a refusal is short (`refusal-length`).
use Rattle.std.specs.Prelude.{◌≤◌, length}
use Rattle.std.proofs.Common.{arith, length-append}
use Rattle.session.specs.declared.Refusal.{Refusal}
use Rattle.text.specs.Text.{number_text}
use Rattle.text.proofs.Text.Digits.Laws.{number_short}
use Rattle.closing_lines.specs.Closing.{refusal_line}

pub refusal-length : (r : Refusal) → length (refusal_line r) ≤ 50
refusal-length r =
    rw (length-append (number_text r.number), length-append (number_text r.place))
    (omega (arith, number_short r.number, number_short r.place))
