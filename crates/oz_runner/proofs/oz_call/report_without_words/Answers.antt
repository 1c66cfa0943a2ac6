use Rattle.oz_runner.proofs.CauseLemmas.{told_without_run}
use Rattle.oz_runner.proofs.oz_call.report_without_words.Goals as goal

pub returns-clause-status : goal.returns-clause-status
returns-clause-status g c = (told_without_run _ _ _ c.work_without_run.result _ c.report.ensures.written c.work_without_run.ensures.status c.work_without_run.ensures.printed).0

pub returns-clause-written : goal.returns-clause-written
returns-clause-written g c = (told_without_run _ _ _ c.work_without_run.result _ c.report.ensures.written c.work_without_run.ensures.status c.work_without_run.ensures.printed).1

pub returns-clause-pieces : goal.returns-clause-pieces
returns-clause-pieces g c = (told_without_run _ _ _ c.work_without_run.result _ c.report.ensures.written c.work_without_run.ensures.status c.work_without_run.ensures.printed).2
