use Rattle.world_cells.proofs.RowLemmas.{units_are_reached, messages_are_reached}
use Rattle.world_cells.proofs.laws.rows_are_reached.Goals as goal

pub returns : goal.returns
returns c = record { units = units_are_reached; messages = messages_are_reached }
