-- A refusal (01, "Refusals in checking order"): its number and the place that it names.
use Rattle.std.specs.Prelude.{ℕ}
use Rattle.session.specs.declared.Refusal.{Refusal}

abbrev pub refusal : ℕ → ℕ → Refusal
refusal number place = record { number = number; place = place }
