use Rattle.tree_node.proofs.RowsShown.{proc_shows, cell_shows, port_shows, least_shows, reserved_shows, empty_shows}
use Rattle.tree_node.proofs.laws.shown_nodes.Goals as goal

pub returns : goal.returns
returns c = record { procedure = proc_shows; cell = cell_shows; port = port_shows; least = least_shows; reserved = reserved_shows; empty = empty_shows }
