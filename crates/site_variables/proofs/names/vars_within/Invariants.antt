use Rattle.std.proofs.Common.{drop}
use Rattle.std.specs.Prelude.{◌↔◌}
use Rattle.tree_node.specs.Each.{Each}
use Rattle.site_variables.specs.Fit.{IsVarWithin}
use Rattle.site_variables.proofs.names.vars_within.Given as goal

abbrev pub invariant-loop-var : goal.invariant-loop-var
invariant-loop-var l = Each (IsVarWithin l.bounds) (drop l.var-index l.vars) ↔ Each (IsVarWithin l.bounds) l.vars
