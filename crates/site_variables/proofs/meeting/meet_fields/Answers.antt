use Rattle.site_variables.proofs.MeetLemmas.{met_none, next_field, field_made}
use Rattle.site_variables.proofs.meeting.meet_fields.Goals as goal

pub loop-field-init : goal.loop-field-init
loop-field-init c = met_none _ _ c.requires.linked

pub loop-field-preserved : goal.loop-field-preserved
loop-field-preserved c =
    next_field c.args.fields.now c.loop-field.field-index c.field-item.result c.var_of-var.result _ _ _ _ _ _ c.loop-field-test.true c.field-item.is c.var_of-var.ensures c.loop-field.invariant c.in_ok-meet_var.ensures

pub meet_var-requires-clause-linked : goal.meet_var-requires-clause-linked
meet_var-requires-clause-linked c = c.loop-field.invariant.linked

pub meet_var-requires-clause-made : goal.meet_var-requires-clause-made
meet_var-requires-clause-made c =
    field_made c.args.variables.now.binder c.loop-field.variables.binder c.args.fields.now c.loop-field.field-index c.field-item.result c.var_of-var.result
    c.loop-field.invariant.owners c.loop-field.invariant.site c.requires.made c.loop-field-test.true c.field-item.is c.var_of-var.ensures
