use Rattle.world_messages.proofs.CountLemmas.{once_each, none_own}
use Rattle.world_messages.proofs.FewMessages.{spawns_are_few}
use Rattle.world_messages.proofs.laws.registers_are_few.Goals as goal

pub returns : goal.returns
returns c = record { once = once_each; own = none_own; spawns = spawns_are_few }
