use Rattle.std.proofs.Common.{◌↔◌, drop}
use Rattle.tree_node.specs.Each.{Each}
use Rattle.kernel_syntax.specs.Program.{IsStmt}
use Rattle.kernel_syntax.specs.Preorder.{AreBodies, HasRoom, IsInPreorder}
use Rattle.kernel_syntax.proofs.preorder.is_in_preorder.Given as goal

abbrev pub invariant-loop-number : goal.invariant-loop-number
invariant-loop-number l = record {
  stmts : Each IsStmt (drop l.number l.stmts);
  room : Each HasRoom l.coming;
  ahead : AreBodies l.number l.coming (drop l.number l.stmts) ↔ IsInPreorder l.stmts;
}
