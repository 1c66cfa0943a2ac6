use Rattle.world_journals.proofs.RequestLemmas.{turns_are_paid, requests_are_served, exchanges_are_split}
use Rattle.world_journals.proofs.laws.requests_are_served.Goals as goal

pub returns : goal.returns
returns c = record { turns = turns_are_paid; split = exchanges_are_split; served = requests_are_served }
