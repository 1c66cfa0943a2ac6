use Rattle.std.proofs.Common.{◌≡◌, ◌≤◌, drop, length, reverse}
use Rattle.tree_node.specs.Goal.{field_pairs}
use Rattle.unify_steps.proofs.records.field_pairs.Given as goal

abbrev pub invariant-fields : goal.invariant-fields
invariant-fields l = record {
  in_range : l.at ≤ length l.left;
  done : reverse l.pairs.items ≡ field_pairs (drop l.at l.left) (drop l.at l.right);
}

abbrev pub decreases-fields : goal.decreases-fields
decreases-fields l = l.at
