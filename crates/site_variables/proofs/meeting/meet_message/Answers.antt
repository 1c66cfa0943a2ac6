use Rattle.site_model.specs.Bundle.{body_vars, vars_of_equations, message_bundle}
use Rattle.site_variables.specs.Variables.{IsMadeIfOwn}
use Rattle.kernel_syntax.proofs.PreorderLemmas.{each_left}
use Rattle.site_variables.proofs.MeetLemmas.{bundle_met, bundle_made}
use Rattle.site_variables.proofs.meeting.meet_message.Goals as goal

pub returns : goal.returns
returns c = bundle_met c.args.msg.now c.bundle_of.result.now _ _ _ _ _ _ c.bundle_of.ensures c.in_ok-meet_body.ensures c.in_ok-meet_equations.ensures

pub meet_body-requires-clause-made : goal.meet_body-requires-clause-made
meet_body-requires-clause-made c = each_left (IsMadeIfOwn c.args.variables.now.binder) (body_vars c.args.msg.now) (vars_of_equations (message_bundle c.args.msg.now)) c.requires.made

pub meet_equations-requires-clause-linked : goal.meet_equations-requires-clause-linked
meet_equations-requires-clause-linked c = c.in_ok-meet_body.ensures.linked

pub meet_equations-requires-clause-made : goal.meet_equations-requires-clause-made
meet_equations-requires-clause-made c =
    bundle_made c.args.msg.now c.bundle_of.result.now c.args.variables.now.binder c.meet_body.new.variables.binder c.bundle_of.ensures c.in_ok-meet_body.ensures.owners c.in_ok-meet_body.ensures.site c.requires.made
