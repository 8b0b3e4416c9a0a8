-- The traps' cases hold: each is computed.
use Rattle.std.specs.Prelude.{refl}
use Rattle.attribute_set.specs.Sets.{full, without, inside, meets}
use Rattle.attribute_set.specs.Passing.{passing}
use Rattle.implication.specs.Closure.{fire, pass, close, closure}
use Rattle.next_set.specs.Next.{fits, next_below}
use Rattle.context.specs.Places.{lowest, anywhere}
use Rattle.context.specs.Objects.{has, excludes, lacks, refutes, marked_twice, contradicts}
use Rattle.reach.specs.Reach.{cut, narrow, reach}
use Rattle.session.specs.Limits.{bad_length}
use Rattle.machine.specs.Checks.{standing, question_stands, first_failing, strange, outside_m, session_checks, yes_checks, test_checks, filing_checks}
use Rattle.machine.specs.Machine.{perform_step, performed, checks_of, perform, opening}
use Rattle.machine.specs.Traps.{Traps}

pub traps : Traps
unfolding full without inside meets fire pass close closure fits next_below lowest anywhere passing has excludes lacks refutes marked_twice contradicts cut narrow reach standing question_stands first_failing bad_length strange outside_m session_checks yes_checks test_checks filing_checks perform_step performed checks_of perform opening
traps = record {
  unknown = refl;
  no_rows = refl;
  last_row = refl;
  rest = refl;
  no_taken = refl;
  another_question = refl;
  yes_taken = refl;
  second_yes = refl;
  tight = refl;
  tight_listed = refl;
  third_set = refl;
  opening_asks = refl;
}
