use Rattle.oz_model.proofs.TellLemmas.{tells_through}
use Rattle.oz_model.proofs.laws.tells_go_through.Goals as goal

pub returns : goal.returns
returns c = tells_through
