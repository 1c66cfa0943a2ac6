use Rattle.std.proofs.Common.{◌∙◌}
use Rattle.bind_protocol.proofs.CodeLemmas.{grown_on, front_on, met_next_field, can_meet_field}
use Rattle.bind_protocol.proofs.laws.BindWorld.meet_fields.Goals as goal

pub loop-field-preserved : goal.loop-field-preserved
loop-field-preserved c = record {
  rest = met_next_field c.loop-field.self c.meet.new.self c.args.site c.args.fields.now c.loop-field.field-index c.field-item.result c.var_of-var.result c.loop-field-test.true c.field-item.is c.var_of-var.ensures c.in_ok-meet.ensures.ok ∙ c.loop-field.invariant.rest;
  grows = grown_on _ _ _ c.loop-field.invariant.grows c.meet.ensures.grows;
  front = front_on _ _ _ c.loop-field.invariant.front c.meet.ensures.front;
  delivered = c.meet.ensures.delivered ∙ c.loop-field.invariant.delivered;
}

pub meet-requires : goal.meet-requires
meet-requires c =
    can_meet_field c.args.self.now c.loop-field.self c.args.site c.args.fields.now c.loop-field.field-index c.field-item.result c.var_of-var.result c.loop-field.invariant.grows c.requires.site c.requires.made c.loop-field-test.true c.field-item.is c.var_of-var.ensures
