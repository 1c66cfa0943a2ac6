use Rattle.tree_node.proofs.RowsShown.{three_nodes, one_node, field_is_needed, cut_is_not_needed}
use Rattle.tree_node.proofs.laws.shown_cuts.Goals as goal

pub returns : goal.returns
returns c = record { three = three_nodes; one = one_node; needed = field_is_needed; not_needed = cut_is_not_needed }
