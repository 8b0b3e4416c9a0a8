-- Where the checks pass, the first row that refutes is one in use, or there is none.
use Rattle.session_queries.proofs.Answers.Laws.{refute_found, refute_nothing}
use Rattle.session_queries.proofs.refuted.Goals as goal

pub returns-then-row-used : goal.returns-then-row-used
returns-then-row-used c = refute_found _ _ _ _ _ c.in_ok-check_session.ensures c.first_refuting-row.ensures c.if-row-used.true

pub returns-else-row-used : goal.returns-else-row-used
returns-else-row-used c = refute_nothing _ _ _ _ _ c.in_ok-check_session.ensures c.first_refuting-row.ensures c.if-row-used.false
