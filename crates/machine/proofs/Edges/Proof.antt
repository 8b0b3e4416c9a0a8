-- The cases at the edges hold: each is computed.
use Rattle.std.specs.Prelude.{refl}
use Rattle.attribute_set.specs.Sets.{full, without, inside, meets}
use Rattle.attribute_set.specs.Passing.{passing}
use Rattle.implication.specs.Closure.{fire, pass, close, closure}
use Rattle.next_set.specs.Next.{fits, next_below}
use Rattle.context.specs.Places.{lowest, anywhere}
use Rattle.context.specs.Objects.{has, excludes, lacks, refutes, first_refuting, marked_twice, contradicts}
use Rattle.context.specs.Filling.{reverses, filled_at}
use Rattle.reach.specs.Reach.{cut, narrow, reach}
use Rattle.session.specs.Limits.{bad_length}
use Rattle.machine.specs.Checks.{standing, question_stands, first_failing, strange, outside_m, session_checks, yes_checks, test_checks, filing_checks, fill_checks}
use Rattle.machine.specs.Machine.{perform_step, refuted_at, performed, checks_of, perform, opening}
use Rattle.machine.specs.Edges.{Edges}

pub edges : Edges
unfolding full without inside meets fire pass close closure fits next_below lowest anywhere passing has excludes lacks refutes first_refuting marked_twice contradicts reverses filled_at cut narrow reach standing question_stands first_failing bad_length strange outside_m session_checks yes_checks test_checks filing_checks fill_checks perform_step refuted_at performed checks_of perform opening
edges = record {
  attributes_at_most = refl;
  too_many_attributes = refl;
  no_attributes = refl;
  most_words = refl;
  too_many_row_words = refl;
  odd_row_words = refl;
  too_many_list_words = refl;
  odd_list_words = refl;
  too_many_background_words = refl;
  odd_background_words = refl;
  most_rows = refl;
  too_many_rows = refl;
  most_rules = refl;
  no_place_for_a_rule = refl;
  last_place_for_a_rule = refl;
  too_many_rules = refl;
  four_row = refl;
  four_rule = refl;
  four_current = refl;
  four_asked = refl;
  five = refl;
  six = refl;
  six_of_nothing = refl;
  five_before_six = refl;
  seven = refl;
  seven_list = refl;
  eight_yes = refl;
  eight_no = refl;
  nine_outside = refl;
  nine_twice = refl;
  ten_premise = refl;
  ten_conclusion = refl;
  ten_had = refl;
  ten_lacked = refl;
  eleven_not_ten = refl;
  refuted_lacked = refl;
  refuted_had = refl;
  asked_had = refl;
  eleven_of_nothing = refl;
  eleven = refl;
  eleven_before_twelve = refl;
  no_contradicts = refl;
  last_place_for_a_row = refl;
  no_place_for_a_row = refl;
  test_refutes = refl;
  test_contradicting = refl;
  test_eight = refl;
  test_nine = refl;
  test_ten_premise = refl;
  test_ten_conclusion = refl;
  filed = refl;
  filed_unasked = refl;
  filed_at_M = refl;
  finished_after = refl;
  file_nine_outside = refl;
  file_nine_twice = refl;
  file_eleven = refl;
  file_twelve = refl;
  filled = refl;
  fill_again = refl;
  fill_nothing = refl;
  fill_first = refl;
  fill_last = refl;
  fill_unasked = refl;
  fill_at_M = refl;
  fill_next_number = refl;
  fill_no_rows = refl;
  fill_largest_number = refl;
  fill_nine_outside = refl;
  fill_nine_twice = refl;
  fill_yes_to_no = refl;
  fill_no_to_yes = refl;
  fill_33_before_11 = refl;
  fill_eleven = refl;
  fill_eleven_implied = refl;
}
