use Rattle.std.proofs.Common.{◌≡◌, drop}
use Rattle.bind_protocol.specs.World.{HasGrown, IsFront, after_meeting, field_vars}
use Rattle.bind_protocol.proofs.laws.BindWorld.meet_fields.Given as goal

abbrev pub invariant-loop-field : goal.invariant-loop-field
invariant-loop-field l = record {
  rest : after_meeting l.self l.site (field_vars (drop l.field-index l.fields)) ≡ after_meeting l.fn.self l.site (field_vars l.fields);
  grows : HasGrown l.fn.self l.self;
  front : IsFront l.fn.self.travelling l.self.travelling;
  delivered : l.self.delivered ≡ l.fn.self.delivered;
}
