use Rattle.std.proofs.Common.{◌≡◌, drop, map}
use Rattle.pick_list.specs.Binds.{equation_of}
use Rattle.site_variables.proofs.AloneLemmas.{AreFollowed}
use Rattle.site_variables.proofs.variables.Variables.follow_alone.Given as goal

abbrev pub invariant-loop-bind : goal.invariant-loop-bind
invariant-loop-bind l = record {
  store : l.self.store ≡ l.fn.self.store;
  followed : AreFollowed l.self.binder l.fn.self.binder (map equation_of (drop l.bind-index l.binds)) (map equation_of l.binds);
}
