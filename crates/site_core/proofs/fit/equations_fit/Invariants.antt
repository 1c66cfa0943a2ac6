use Rattle.std.proofs.Common.{drop}
use Rattle.std.specs.Prelude.{◌↔◌}
use Rattle.tree_node.specs.Each.{Each}
use Rattle.site_core.specs.Fitting.{IsEquationFit}
use Rattle.site_core.proofs.fit.equations_fit.Given as goal

abbrev pub invariant-loop-equation : goal.invariant-loop-equation
invariant-loop-equation l = Each (IsEquationFit l.program) (drop l.equation-index l.equations) ↔ Each (IsEquationFit l.program) l.equations
