use Rattle.std.proofs.Common.{drop}
use Rattle.std.specs.Prelude.{◌↔◌}
use Rattle.tree_node.specs.Each.{Each}
use Rattle.site_variables.specs.Fit.{EquationFits}
use Rattle.site_variables.proofs.variables.Variables.equations_fit.Given as goal

abbrev pub invariant-loop-equation : goal.invariant-loop-equation
invariant-loop-equation l = Each (EquationFits l.self) (drop l.equation-index l.equations) ↔ Each (EquationFits l.self) l.equations
