use Rattle.std.proofs.Common.{take}
use Rattle.site_variables.specs.Meeting.{AreMet}
use Rattle.site_variables.proofs.meeting.meet_vars.Given as goal

abbrev pub invariant-loop-var : goal.invariant-loop-var
invariant-loop-var l = AreMet (take l.var-index l.vars) l.fn.variables l.fn.outbox l.variables l.outbox
