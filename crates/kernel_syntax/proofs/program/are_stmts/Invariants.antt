use Rattle.std.proofs.Common.{◌↔◌, drop}
use Rattle.tree_node.specs.Each.{Each}
use Rattle.kernel_syntax.specs.Program.{IsStmt}
use Rattle.kernel_syntax.proofs.program.are_stmts.Given as goal

abbrev pub invariant-loop-stmt : goal.invariant-loop-stmt
invariant-loop-stmt l = Each IsStmt (drop l.stmt-index l.stmts) ↔ Each IsStmt l.stmts
