use Rattle.oz_runner.proofs.work.do_work.Goals as goal

pub returns-in-Ok-clause-cause : goal.returns-in-Ok-clause-cause
returns-in-Ok-clause-cause g c = λ sink. c.work_as_said.ensures.cause _ sink c.in-Ok.ensures.text

pub returns-in-Ok-clause-due : goal.returns-in-Ok-clause-due
returns-in-Ok-clause-due g c = λ sink. c.work_as_said.ensures.due _ sink c.in-Ok.ensures.text
