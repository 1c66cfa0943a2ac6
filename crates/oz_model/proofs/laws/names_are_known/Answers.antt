use Rattle.oz_model.proofs.CellLemmas.{names_are_known}
use Rattle.oz_model.proofs.laws.names_are_known.Goals as goal

pub returns : goal.returns
returns c = names_are_known
