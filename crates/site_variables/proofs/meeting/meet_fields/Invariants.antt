use Rattle.std.proofs.Common.{take}
use Rattle.site_message.specs.Vars.{field_vars}
use Rattle.site_variables.specs.Meeting.{AreMet}
use Rattle.site_variables.proofs.meeting.meet_fields.Given as goal

abbrev pub invariant-loop-field : goal.invariant-loop-field
invariant-loop-field l = AreMet (field_vars (take l.field-index l.fields)) l.fn.variables l.fn.outbox l.variables l.outbox
