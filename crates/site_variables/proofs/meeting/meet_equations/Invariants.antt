use Rattle.std.proofs.Common.{take}
use Rattle.site_model.specs.Bundle.{vars_of_equations}
use Rattle.site_variables.specs.Meeting.{AreMet}
use Rattle.site_variables.proofs.meeting.meet_equations.Given as goal

abbrev pub invariant-loop-var : goal.invariant-loop-var
invariant-loop-var l = AreMet (vars_of_equations (take l.var-index l.equations)) l.fn.variables l.fn.outbox l.variables l.outbox
