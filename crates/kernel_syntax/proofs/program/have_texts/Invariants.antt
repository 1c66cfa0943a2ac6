use Rattle.std.proofs.Common.{◌↔◌, drop}
use Rattle.tree_node.specs.Each.{Each}
use Rattle.kernel_syntax.specs.Texts.{HasTexts}
use Rattle.kernel_syntax.proofs.program.have_texts.Given as goal

abbrev pub invariant-loop-stmt : goal.invariant-loop-stmt
invariant-loop-stmt l = Each HasTexts (drop l.stmt-index l.stmts) ↔ Each HasTexts l.stmts
