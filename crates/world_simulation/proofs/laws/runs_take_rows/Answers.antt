use Rattle.world_simulation.proofs.RowLemmas.{runs_take_rows}
use Rattle.world_simulation.proofs.laws.runs_take_rows.Goals as goal

pub returns : goal.returns
returns c = record { rows = runs_take_rows c.sites_are_simulated.ensures.simulated c.sites_are_simulated.ensures.fit }
