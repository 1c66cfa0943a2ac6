use Rattle.std.proofs.Common.{◌∙◌}
use Rattle.bind_protocol.proofs.CodeLemmas.{grown_on, front_on, met_next}
use Rattle.bind_protocol.proofs.laws.BindWorld.meet_vars.Goals as goal

pub loop-var-preserved : goal.loop-var-preserved
loop-var-preserved c = record {
  rest = met_next c.loop-var.self c.meet.new.self c.args.site c.args.vars.now c.loop-var.var-index _ c.loop-var-test.true c.in_ok-meet.ensures.ok ∙ c.loop-var.invariant.rest;
  grows = grown_on _ _ _ c.loop-var.invariant.grows c.meet.ensures.grows;
  front = front_on _ _ _ c.loop-var.invariant.front c.meet.ensures.front;
  delivered = c.meet.ensures.delivered ∙ c.loop-var.invariant.delivered;
}
