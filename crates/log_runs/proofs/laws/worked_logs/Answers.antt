use Rattle.std.proofs.Common.{refl}
use Rattle.log_runs.proofs.laws.worked_logs.Goals as goal

pub returns-clause-doubled : goal.returns-clause-doubled
returns-clause-doubled c = refl

pub returns-clause-ahead : goal.returns-clause-ahead
returns-clause-ahead c = refl

pub returns-clause-late : goal.returns-clause-late
returns-clause-late c = refl

pub returns-clause-behind : goal.returns-clause-behind
returns-clause-behind c = refl
