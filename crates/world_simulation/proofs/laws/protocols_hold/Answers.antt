use Rattle.world_simulation.proofs.GrowLemmas.{equations_stay}
use Rattle.world_simulation.proofs.HoldLemmas.{answers_always_hold}
use Rattle.world_simulation.proofs.ProtocolLemmas.{protocols_always_hold}
use Rattle.world_simulation.proofs.TotalLemmas.{requests_always_balance}
use Rattle.world_simulation.proofs.laws.protocols_hold.Goals as goal

pub returns : goal.returns
returns c = record { holds = protocols_always_hold; answers = answers_always_hold; asked = requests_always_balance; stays = equations_stay }
