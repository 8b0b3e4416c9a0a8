-- Each kind makes the call of its kind, whose contract is that of the log's call; a number that no kind has does nothing.
use Rattle.logged_calls.specs.declared.CallKind.TheVariants.{Step, Yes, No, Follows, Refuted, Test, File, Fill}
use Rattle.logged_calls.proofs.CallKinds.Laws.{of-read, of-past}
use Rattle.logged_calls.proofs.replay_one.Goals as goal

pub returns-in_default : goal.returns-in_default
returns-in_default c = rw c.kept.ensures (of-past _ _ _ _ _ _ _ _ _ c.in_default.ensures.1 c.in_words.ensures)

pub returns-in-Step : goal.returns-in-Step
returns-in-Step c = of-read Step _ _ _ c.in-Ok.ensures.0 c.in-Step.is c.step.ensures.made

pub returns-in-Yes : goal.returns-in-Yes
returns-in-Yes c = of-read Yes _ _ _ c.in-Ok.ensures.0 c.in-Yes.is c.accept.ensures.made

pub returns-in-No : goal.returns-in-No
returns-in-No c = of-read No _ _ _ c.in-Ok.ensures.0 c.in-No.is c.reject.ensures.made

pub returns-in-Follows : goal.returns-in-Follows
returns-in-Follows c = rw c.kept-in-Follows.ensures (of-read Follows _ _ _ c.in-Ok.ensures.0 c.in-Follows.is c.follows.ensures)

pub returns-in-Refuted : goal.returns-in-Refuted
returns-in-Refuted c = rw c.kept-in-Refuted.ensures (of-read Refuted _ _ _ c.in-Ok.ensures.0 c.in-Refuted.is c.refuted.ensures)

pub returns-in-Test : goal.returns-in-Test
returns-in-Test c = rw c.kept-in-Test.ensures (of-read Test _ _ _ c.in-Ok.ensures.0 c.in-Test.is c.test_row.ensures)

pub returns-in-File : goal.returns-in-File
returns-in-File c = of-read File _ _ _ c.in-Ok.ensures.0 c.in-File.is c.file_row.ensures.made

pub returns-in-Fill : goal.returns-in-Fill
returns-in-Fill c = rw c.kept-in-Fill.ensures (of-read Fill _ _ _ c.in-Ok.ensures.0 c.in-Fill.is c.fill_row.ensures)
