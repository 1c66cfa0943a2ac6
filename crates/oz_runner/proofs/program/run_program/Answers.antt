use Rattle.site_model.specs.Bundle.{bundle_limit}
use Rattle.oz_runner.proofs.program.run_program.Goals as goal

pub returns-then-workers-eq0-clause-homes : goal.returns-then-workers-eq0-clause-homes
returns-then-workers-eq0-clause-homes g c =
    let ran = c.run_plain.ensures.run in
    c.threads_stay_home.ensures.home c.args.program.now c.args.limits.sites bundle_limit c.run_plain.result.journal ran.0 ran.1

pub returns-clause-homes : goal.returns-clause-homes
returns-clause-homes g c =
    let ran = c.finish_run.ensures.run in
    c.threads_stay_home.ensures.home c.args.program.now c.args.limits.sites bundle_limit c.finish_run.result.journal ran.0 ran.1

pub returns-then-workers-eq0-clause-rounds : goal.returns-then-workers-eq0-clause-rounds
returns-then-workers-eq0-clause-rounds g c = λ none. c.run_plain.ensures.rounds

pub returns-clause-rounds : goal.returns-clause-rounds
returns-clause-rounds g c = λ none. absurd (c.if-workers-eq0.false none)

pub returns-clause-within : goal.returns-clause-within
returns-clause-within g c = c.finish_run.ensures.within c.drive_sites-driven.ensures.within
