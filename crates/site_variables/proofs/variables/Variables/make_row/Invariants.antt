use Rattle.std.proofs.Common.{◌≡◌}
use Rattle.tree_node.specs.declared.names.Name.TheVariants as name
use Rattle.pick_list.specs.Names.{row_of}
use Rattle.site_variables.proofs.MakeLemmas.{AreLeft}
use Rattle.site_variables.proofs.variables.Variables.make_row.Given as goal

abbrev pub invariant-loop-place : goal.invariant-loop-place
invariant-loop-place l = record {
  left : AreLeft (row_of (name.Var l.first) l.count) l.place l.fn.self.binder l.self.binder;
  store : l.self.store ≡ l.fn.self.store;
}
