use Rattle.site_variables.proofs.MeetLemmas.{met_none, next_equation, equation_made}
use Rattle.site_variables.proofs.meeting.meet_equations.Goals as goal

pub loop-var-init : goal.loop-var-init
loop-var-init c = met_none _ _ c.requires.linked

pub loop-var-preserved : goal.loop-var-preserved
loop-var-preserved c = next_equation c.args.equations.now c.loop-var.var-index c.loop-var-item.result _ _ _ _ _ _ c.loop-var-test.true c.loop-var-item.is c.loop-var.invariant c.in_ok-meet_equation.ensures

pub meet_equation-requires-clause-linked : goal.meet_equation-requires-clause-linked
meet_equation-requires-clause-linked c = c.loop-var.invariant.linked

pub meet_equation-requires-clause-made : goal.meet_equation-requires-clause-made
meet_equation-requires-clause-made c =
    equation_made c.args.variables.now.binder c.loop-var.variables.binder c.args.equations.now c.loop-var.var-index c.loop-var-item.result
    c.loop-var.invariant.owners c.loop-var.invariant.site c.requires.made c.loop-var-test.true c.loop-var-item.is
