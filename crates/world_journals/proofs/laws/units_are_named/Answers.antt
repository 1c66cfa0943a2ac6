use Rattle.world_journals.proofs.PlaceLemmas.{units_are_always_named}
use Rattle.world_journals.proofs.laws.units_are_named.Goals as goal

pub returns : goal.returns
returns c = record { named = units_are_always_named }
