use Rattle.std.proofs.Common.{◌≡◌, take, drop, length}
use Rattle.tree_node.specs.Goal.{equal_fields}
use Rattle.tree_node.proofs.node.equal_fields.Given as goal

abbrev pub invariant-loop-at : goal.invariant-loop-at
invariant-loop-at l = record {
  same_length : length l.left ≡ length l.right;
  same_front : take l.at l.left ≡ take l.at l.right;
  rest : equal_fields l.left l.right ≡ equal_fields (drop l.at l.left) (drop l.at l.right);
}
