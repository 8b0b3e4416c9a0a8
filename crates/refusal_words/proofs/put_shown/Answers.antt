-- Nothing is written where a line is left before the one that is sought.
use Rattle.text.proofs.Page.Laws.{text-end}
use Rattle.refusal_words.proofs.Words.Laws.{shown-before}
use Rattle.refusal_words.proofs.put_shown.Goals as goal

pub returns-else-skip-eq0 : goal.returns-else-skip-eq0
returns-else-skip-eq0 c = text-end _ _ (shown-before _ _ c.if-skip-eq0.false)
