use Rattle.world_simulation.proofs.SimulationLemmas.{every_run_is_simulated, delivered_messages_are_fit}
use Rattle.world_simulation.proofs.laws.sites_are_simulated.Goals as goal

pub returns : goal.returns
returns c = record { simulated = every_run_is_simulated; fit = delivered_messages_are_fit }
