use Rattle.world_messages.proofs.PartLemmas.{parts_are_fit}
use Rattle.world_messages.proofs.laws.parts_are_fit.Goals as goal

pub returns : goal.returns
returns c = parts_are_fit
