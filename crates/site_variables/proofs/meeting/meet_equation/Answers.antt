use Rattle.std.proofs.Common.{[], ◌∷◌}
use Rattle.site_message.specs.Vars.{vars_of}
use Rattle.site_variables.proofs.MeetLemmas.{met_more, each_made}
use Rattle.site_variables.proofs.meeting.meet_equation.Goals as goal

pub returns : goal.returns
returns c = met_more (c.args.var ∷ []) (vars_of c.args.term.now) _ _ _ _ _ _ c.in_ok-meet_var.ensures c.in_ok-meet_term.ensures

pub meet_term-requires-clause-linked : goal.meet_term-requires-clause-linked
meet_term-requires-clause-linked c = c.in_ok-meet_var.ensures.linked

pub meet_term-requires-clause-made : goal.meet_term-requires-clause-made
meet_term-requires-clause-made c =
    each_made c.args.variables.now.binder c.meet_var.new.variables.binder (vars_of c.args.term.now) c.in_ok-meet_var.ensures.owners c.in_ok-meet_var.ensures.site c.requires.made.1
