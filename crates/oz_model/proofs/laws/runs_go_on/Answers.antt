use Rattle.oz_model.proofs.RunLemmas.{runs_more}
use Rattle.oz_model.proofs.laws.runs_go_on.Goals as goal

pub returns : goal.returns
returns c = runs_more
