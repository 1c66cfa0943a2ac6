use Rattle.oz_model.proofs.RestLemmas.{rest_or_step}
use Rattle.oz_model.proofs.TestLemmas.{waits_where_open}
use Rattle.oz_model.proofs.WaitLemmas.{waits_for_unbound}
use Rattle.oz_model.proofs.laws.rest_is_the_end.Goals as goal

pub returns-clause-step : goal.returns-clause-step
returns-clause-step c = rest_or_step

pub returns-clause-unbound : goal.returns-clause-unbound
returns-clause-unbound c = waits_for_unbound

pub returns-clause-undecided : goal.returns-clause-undecided
returns-clause-undecided c = waits_where_open
