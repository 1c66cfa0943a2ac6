use Rattle.tree_node.proofs.RowsGoal.{parts_are_told, either_is_bound, ring_is_met}
use Rattle.tree_node.proofs.laws.worked_goals.Goals as goal

pub returns : goal.returns
returns c = record { parts = parts_are_told; either = either_is_bound; ring = ring_is_met }
