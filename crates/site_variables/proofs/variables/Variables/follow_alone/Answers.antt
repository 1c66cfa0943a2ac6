use Rattle.std.proofs.Common.{◌∙◌, ap}
use Rattle.bind_protocol.specs.Rows.{after_ask}
use Rattle.site_variables.proofs.AloneLemmas.{next_follows}
use Rattle.site_variables.proofs.variables.Variables.follow_alone.Goals as goal

pub loop-bind-preserved : goal.loop-bind-preserved
loop-bind-preserved c = record {
  store = c.loop-bind.invariant.store;
  followed = next_follows c.args.self.now.binder c.loop-bind.self.binder c.args.binds.now c.loop-bind.bind-index c.bind-item.result c.loop-bind-test.true c.bind-item.is c.loop-bind.invariant.followed c.bind_alone.new.self
      (c.bind_alone.ensures.records ∙ ap (after_ask c.loop-bind.self.binder c.bind-item.result.var) c.in_ok-term.ensures);
}
