use Rattle.site_variables.proofs.MeetLemmas.{met_none, next_var, var_made}
use Rattle.site_variables.proofs.meeting.meet_vars.Goals as goal

pub loop-var-init : goal.loop-var-init
loop-var-init c = met_none _ _ c.requires.linked

pub loop-var-preserved : goal.loop-var-preserved
loop-var-preserved c = next_var c.args.vars.now c.loop-var.var-index _ _ _ _ _ _ _ c.loop-var-test.true c.loop-var.invariant c.in_ok-meet_var.ensures

pub meet_var-requires-clause-linked : goal.meet_var-requires-clause-linked
meet_var-requires-clause-linked c = c.loop-var.invariant.linked

pub meet_var-requires-clause-made : goal.meet_var-requires-clause-made
meet_var-requires-clause-made c = var_made c.args.variables.now.binder c.loop-var.variables.binder c.args.vars.now c.loop-var.var-index _ c.loop-var.invariant.owners c.loop-var.invariant.site c.requires.made c.loop-var-test.true
