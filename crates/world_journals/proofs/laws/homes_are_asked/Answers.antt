use Rattle.world_journals.proofs.HomeLemmas.{homes_are_asked}
use Rattle.world_journals.proofs.laws.homes_are_asked.Goals as goal

pub returns : goal.returns
returns c = record { asked = homes_are_asked }
