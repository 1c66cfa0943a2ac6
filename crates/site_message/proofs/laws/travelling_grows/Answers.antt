use Rattle.site_message.proofs.TravelLemmas.{travelling_grows, travelling_ascends}
use Rattle.site_message.proofs.laws.travelling_grows.Goals as goal

pub returns : goal.returns
returns c = record { grows = travelling_grows; ascends = travelling_ascends }
