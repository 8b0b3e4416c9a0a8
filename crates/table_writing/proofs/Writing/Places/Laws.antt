-- Every refusal of a writer has such a number, and names such a place (`right-place`).
use Rattle.std.specs.Prelude.{◌≡◌, refl, true, List, ℕ, ◌+◌, length, Err, Result, Ok}
use Rattle.std.proofs.Common.{sym, ap, true≢false, inl, arith}
use Rattle.std.proofs.Math.Logic.{inr}
use Rattle.std.proofs.Math.Option.{Option, none, some}
use Rattle.theory.specs.Lists.{All}
use Rattle.theory.proofs.Lists.Laws.{all_nil, all_cons, all_append}
use Rattle.session.specs.declared.Refusal.{Refusal}
use Rattle.session.specs.Refusals.{refusal}
use Rattle.machine.specs.Checks.{Check, first_failing}
use Rattle.demands.proofs.Facts.Refused.{failing-check}
use Rattle.table_walk.specs.Walk.{place_of}
use Rattle.row_checks.specs.Rows.{row_checks}
use Rattle.row_checks.specs.Rows.Places.{RightRow}
use Rattle.row_checks.proofs.Rows.Laws.{right-rows}
use Rattle.table_text.specs.Table.{text_of}
use Rattle.table_writing.specs.Writing.{names_walk, is_failed, write_checks, written_by, writing}
use Rattle.table_writing.specs.Writing.Names.{FirstBad}
use Rattle.table_writing.proofs.Writing.Names.Laws.{first-bad}
use Rattle.table_writing.specs.Writing.Places.{RightPlace}

module _ (n used : ℕ) (words names : List ℕ) where
  -- the check fails with this number at this place
  abbrev Right : Check → Type 0
  Right c = c.fails ≡ true → RightPlace n used words names (refusal c.number c.place)

  row-place : (r : Refusal) → RightRow used words r → RightPlace n used words names r
  row-place r p = record {
    number = inl p.number;
    five = p.five;
    name = λ e. absurd (omega (arith, p.number));
    other = λ a b. p.other a;
  }

  name-place : is_failed (names_walk n used names) ≡ true → RightPlace n used words names (refusal 26 (place_of (names_walk n used names)))
  name-place f = record {
    number = inr (inl refl);
    five = λ e. absurd (omega arith);
    name = λ e. go (names_walk n used names) refl f;
    other = λ a b. absurd (b refl);
  }
    where
      go : (w : Result ℕ Refusal) → names_walk n used names ≡ w → is_failed w ≡ true → (k : ℕ) × FirstBad names (used + n) k (place_of w)
      go (Ok at) e g = absurd (true≢false (sym g))
      go (Err r) e g = first-bad n used names r e

  places : (room : ℕ) → All Right (write_checks n used words names room)
  unfolding write_checks
  places room =
      all_append (row_checks n used words) _ (λ c m f. row-place _ (right-rows n used words c m f))
      (all_cons name-place (all_cons (λ f. record {
        number = inr (inr refl);
        five = λ e. absurd (omega arith);
        name = λ e. absurd (omega arith);
        other = λ a b. refl;
      }) (all_nil _)))

refused-by : (o : Option Refusal) (size : ℕ) (r : Refusal) → written_by o size ≡ Err r → o ≡ some r
refused-by none size r e = let z : ◌≡◌ {A = ℕ} 0 1 = cc in absurd (omega arith)
refused-by (some x) size r e =
    let same : x ≡ r = cc in
    ap some same

pub right-place : (n used : ℕ) (words names : List ℕ) (room : ℕ) (r : Refusal) → writing n used words names room ≡ Err r
    → RightPlace n used words names r
right-place n used words names room r e =
    let o = first_failing (write_checks n used words names room) in
    failing-check (RightPlace n used words names) (write_checks n used words names room) (places n used words names room) r
    (refused-by o (length (text_of n used words names)) r e)
