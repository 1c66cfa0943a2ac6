use Rattle.tree_node.proofs.RowsGoal.{pairs_are_compared}
use Rattle.tree_node.proofs.laws.worked_comparisons.Goals as goal

pub returns : goal.returns
returns c = pairs_are_compared
