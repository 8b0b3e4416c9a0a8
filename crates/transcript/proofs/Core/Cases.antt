-- Beats below the checks in cases that a wrong one gets wrong, computed: n = 3, as in the machine's `Traps`.
use Rattle.std.specs.Prelude.{◌≡◌, refl, [], ◌∷◌, ◌++◌}
use Rattle.attribute_set.specs.Sets.{inside, meets, full, without}
use Rattle.implication.specs.Closure.{implication, fire, pass, close, closure}
use Rattle.next_set.specs.Next.{fits, next_below}
use Rattle.context.specs.Places.{lowest}
use Rattle.context.specs.Objects.{object, refutes_written, first_written}
use Rattle.written_marks.specs.Written.{cut_written, narrow_written, reach_written}
use Rattle.machine.specs.Checks.{State}
use Rattle.machine.specs.Traps.{state, bare}
use Rattle.output_lines.specs.Lines.{yes_line, no_line}
use Rattle.closing_lines.specs.Closing.{refusal_line}
use Rattle.transcript.specs.Output.{more, last, closing}
use Rattle.transcript.specs.Core.{no_place_refusal, core_no, core_yes, core_reply, core_beat}

-- no place for rules
abbrev pub unlisted : State
unlisted = record { n = 3; lent = record { rows = 8; list = 0; background = 0 }; background = []; rows = []; list = []; current = 0 }

pub record Cases : Type 0 where
  -- the first set that equals its reach is not the end
  pub tight : core_beat [] (state [] (bare ∷ []) 0) 0 ≡ more [] (state [] (bare ∷ []) 4) 1
  -- a no leaves the set, a yes goes on to the next
  pub no : core_beat (object 1 6 ∷ []) (state [] [] 0) 0 ≡ more (no_line 3 (implication 0 7) 1) (state [] (object 1 6 ∷ []) 0) 0
  pub yes : core_beat [] (state [] [] 0) 0 ≡ more (yes_line 3 (implication 0 7)) (state (implication 0 7 ∷ []) [] 7) 1
  -- a yes without a place ends it
  pub no_place : core_beat [] unlisted 0 ≡ last (yes_line 3 (implication 0 7) ++ refusal_line no_place_refusal)
  -- at M it ends
  pub end : core_beat [] (state [] [] 7) 5 ≡ last (closing (state [] [] 7) 5)

pub cases : Cases
unfolding inside meets full without fire pass close closure fits next_below lowest refutes_written first_written cut_written narrow_written reach_written core_no core_yes core_reply core_beat
cases = record { tight = refl; no = refl; yes = refl; no_place = refl; end = refl }
