use Rattle.log_runs.proofs.RunLemmas.{logs_are_runs}
use Rattle.log_runs.proofs.laws.logs_are_runs.Goals as goal

pub returns : goal.returns
returns c = logs_are_runs
