use Rattle.log_runs.proofs.RunLemmas.{sites_join}
use Rattle.log_runs.proofs.laws.sites_join.Goals as goal

pub returns : goal.returns
returns c = sites_join
