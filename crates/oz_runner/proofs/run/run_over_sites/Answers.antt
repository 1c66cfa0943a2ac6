use Rattle.std.proofs.Common.{◌∙◌, arith, subst, sym}
use Rattle.site_model.specs.Bundle.{bundle_limit}
use Rattle.oz_runner.specs.Run.{IsStatusOfRun}
use Rattle.oz_runner.proofs.RunLemmas.{sites_after, sites_came}
use Rattle.oz_runner.proofs.run.run_over_sites.Goals as goal

pub returns-clause-came : goal.returns-clause-came
returns-clause-came g c =
    let out = c.drive_program-reason in
    λ is. subst (IsStatusOfRun _ _ _) (sym c.status_of.ensures)
    (sites_came c.args.program.now c.args.options out.result is c.quiet_tells.ensures c.runs_are_determined.ensures.end (record {
      run = out.ensures.simulated;
      rows = (c.runs_take_rows.ensures.rows c.args.program.now c.args.options.sites bundle_limit out.result.journal out.ensures.simulated.0 c.is_program.ensures c.requires.sites.0 c.requires.sites.1 (omega arith)).0 out.ensures.simulated.1;
      picks = out.ensures.schedule;
      reason = out.ensures.reason;
      went = out.ensures.went;
      within = out.ensures.within;
      rounds = out.ensures.rounds;
      ended = out.ensures.ended;
      waiting = out.ensures.waiting;
    }))

pub returns-clause-after : goal.returns-clause-after
returns-clause-after g c =
    let out = c.drive_program-reason in
    c.status_of.ensures ∙ sites_after c.args.options out.result out.ensures.reason out.ensures.ended out.ensures.waiting
