use Rattle.plain_run.proofs.RunLemmas.{runs_determined}
use Rattle.plain_run.proofs.laws.runs_are_determined.Goals as goal

pub returns : goal.returns
returns c = record { runs = runs_determined }
