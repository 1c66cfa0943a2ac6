use Rattle.std.proofs.Common.{◌≡◌, drop}
use Rattle.bind_protocol.specs.World.{HasGrown, IsFront, after_meeting}
use Rattle.bind_protocol.proofs.laws.BindWorld.meet_vars.Given as goal

abbrev pub invariant-loop-var : goal.invariant-loop-var
invariant-loop-var l = record {
  rest : after_meeting l.self l.site (drop l.var-index l.vars) ≡ after_meeting l.fn.self l.site l.vars;
  grows : HasGrown l.fn.self l.self;
  front : IsFront l.fn.self.travelling l.self.travelling;
  delivered : l.self.delivered ≡ l.fn.self.delivered;
}
