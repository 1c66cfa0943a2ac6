use Rattle.world_journals.proofs.PlaceLemmas.{threads_always_stay_home}
use Rattle.world_journals.proofs.laws.threads_stay_home.Goals as goal

pub returns : goal.returns
returns c = record { home = threads_always_stay_home }
