use Rattle.log_runs.proofs.RunLemmas.{fronts_are_logs}
use Rattle.log_runs.proofs.laws.fronts_are_logs.Goals as goal

pub returns : goal.returns
returns c = fronts_are_logs
