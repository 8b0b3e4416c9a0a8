-- The lent words have places for as many rows and rules as they have pairs; the search finds the rest.
use Rattle.std.proofs.Common.{rules}
use Rattle.implication.proofs.Pairs.Laws.{length_pairs}
use Rattle.machine.specs.Checks.{session_checks, first_failing}
use Rattle.size_checks.proofs.check_sizes.Goals as goal

pub returns-then-bad_places : goal.returns-then-bad_places
unfolding session_checks first_failing
returns-then-bad_places c = search (rules, length_pairs)

pub returns : goal.returns
unfolding session_checks first_failing
returns c = search (rules, length_pairs)
