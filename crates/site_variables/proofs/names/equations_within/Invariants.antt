use Rattle.std.proofs.Common.{drop}
use Rattle.std.specs.Prelude.{◌↔◌}
use Rattle.tree_node.specs.Each.{Each}
use Rattle.tree_node.specs.Names.{EachOfEquation}
use Rattle.site_variables.specs.Fit.{IsWithin}
use Rattle.site_variables.proofs.names.equations_within.Given as goal

abbrev pub invariant-loop-equation : goal.invariant-loop-equation
invariant-loop-equation l = Each (EachOfEquation (IsWithin l.bounds)) (drop l.equation-index l.equations) ↔ Each (EachOfEquation (IsWithin l.bounds)) l.equations
