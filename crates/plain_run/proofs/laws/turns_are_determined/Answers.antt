use Rattle.plain_run.proofs.RoundLemmas.{turns_determined}
use Rattle.plain_run.proofs.laws.turns_are_determined.Goals as goal

pub returns : goal.returns
returns c = record { turns = turns_determined }
