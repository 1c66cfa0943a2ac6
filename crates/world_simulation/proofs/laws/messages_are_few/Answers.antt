use Rattle.world_simulation.proofs.SimulationLemmas.{messages_are_few, cell_messages_are_few, requests_are_single, cell_requests_are_paid}
use Rattle.world_simulation.proofs.TotalLemmas.{all_messages_are_few, answer_messages_are_few}
use Rattle.world_simulation.proofs.laws.messages_are_few.Goals as goal

pub returns : goal.returns
returns c = record { single = requests_are_single; paid = cell_requests_are_paid; few = messages_are_few; cells = cell_messages_are_few; answers = answer_messages_are_few; all = all_messages_are_few }
