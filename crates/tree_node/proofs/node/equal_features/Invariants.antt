use Rattle.std.proofs.Common.{◌≡◌, drop, length}
use Rattle.tree_node.specs.Goal.{equal_features}
use Rattle.tree_node.proofs.node.equal_features.Given as goal

abbrev pub invariant-loop-at : goal.invariant-loop-at
invariant-loop-at l = record {
  same_length : length l.left ≡ length l.right;
  rest : equal_features l.left l.right ≡ equal_features (drop l.at l.left) (drop l.at l.right);
}
