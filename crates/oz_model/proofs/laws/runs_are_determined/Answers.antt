use Rattle.oz_model.proofs.RunLemmas.{at_most_one_end}
use Rattle.oz_model.proofs.laws.runs_are_determined.Goals as goal

pub returns-clause-end : goal.returns-clause-end
returns-clause-end c = at_most_one_end
